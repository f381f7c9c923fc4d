use Rattle.std.proofs.Common.{◌≡◌, ◌++◌, drop, map}
use Rattle.cfg_ast.specs.declared.network.Router.{Router}
use Rattle.srp_build.proofs.routers.names_of.Given as goal

abbrev pub invariant-loop-router : goal.invariant-loop-router
invariant-loop-router l = l.names ++ map (λ (router : Router). router.name) (drop l.router-index l.routers) ≡ map (λ (router : Router). router.name) l.routers
