use Rattle.std.proofs.Common.{◌≡◌, ◌++◌, drop, map}
use Rattle.srp_core.specs.Problem.{initial}
use Rattle.solution_lift.proofs.tables.starts_of.Given as goal

abbrev pub invariant-loop-router : goal.invariant-loop-router
invariant-loop-router l = l.starts ++ map (initial l.srp) (drop l.router-index l.routers) ≡ map (initial l.srp) l.routers
