use Rattle.std.proofs.Common.{◌≡◌, ◌++◌, drop, map}
use Rattle.std.specs.List.{list_any}
use Rattle.cfg_ast.specs.declared.network.Router.{Router}
use Rattle.ask_names.specs.Routers.{is_router_lost}
use Rattle.ask_names.proofs.lost.routers_lost.Given as goal

abbrev pub invariant-loop-router : goal.invariant-loop-router
invariant-loop-router l =
    l.marks.items ++ map (λ (router : Router). list_any (is_router_lost router.name) l.items) (drop l.router-index l.routers)
    ≡ map (λ (router : Router). list_any (is_router_lost router.name) l.items) l.routers
