use Rattle.std.proofs.Common.{◌≡◌, ◌++◌, drop, map}
use Rattle.srp_core.specs.Problem.{is_lone}
use Rattle.solution_lift.proofs.tables.marks_of.Given as goal

abbrev pub invariant-loop-router : goal.invariant-loop-router
invariant-loop-router l = l.marks ++ map (is_lone l.srp) (drop l.router-index l.routers) ≡ map (is_lone l.srp) l.routers
