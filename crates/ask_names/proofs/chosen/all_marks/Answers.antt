use Rattle.std.proofs.Common.{true, ◌∙◌}
use Rattle.cfg_ast.specs.declared.network.Router.{Router}
use Rattle.ask_names.proofs.Loops.{done}
use Rattle.ask_names.proofs.Naming.{every_of}
use Rattle.ask_names.proofs.chosen.all_marks.Goals as goal

pub returns : goal.returns
returns c =
    done (λ (router : Router). true) c.as_slice-routers.result.now c.loop-router._router-index c.loop-router.marks.items _ c.loop-router-test.false
    c.loop-router.invariant
    ∙ every_of c.args.network.now c.as_slice-routers.result.now c.as_slice-routers.ensures
