use Rattle.std.proofs.Common.{◌≡◌, ◌++◌, drop, map, true}
use Rattle.cfg_ast.specs.declared.network.Router.{Router}
use Rattle.ask_names.proofs.chosen.all_marks.Given as goal

abbrev pub invariant-loop-router : goal.invariant-loop-router
invariant-loop-router l =
    l.marks.items ++ map (λ (router : Router). true) (drop l._router-index l.routers) ≡ map (λ (router : Router). true) l.routers
