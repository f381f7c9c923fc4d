use Rattle.std.proofs.Common.{◌∙◌}
use Rattle.cfg_ast.specs.meaning.PolicyFaults.{prepending_maps_in_of}
use Rattle.cfg_check.proofs.Turns.{lines_step}
use Rattle.cfg_check.proofs.prepends.prepend_in.Goals as goal

pub loop-router-preserved : goal.loop-router-preserved
loop-router-preserved c = c.lesser_line-least.ensures ∙ lines_step prepending_maps_in_of c.args.routers.now c.loop-router.router-index c.router-item.result
    c.loop-router.least _ c.loop-router-test.true c.router-item.is c.loop-router.invariant c.in_ok-prepending_maps_in_of.ensures
