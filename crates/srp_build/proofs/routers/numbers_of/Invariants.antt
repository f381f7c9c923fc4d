use Rattle.std.proofs.Common.{◌≡◌, ◌++◌, drop, map}
use Rattle.srp_core.specs.ProblemOf.{as_number_of}
use Rattle.srp_build.proofs.routers.numbers_of.Given as goal

abbrev pub invariant-loop-router : goal.invariant-loop-router
invariant-loop-router l = l.numbers ++ map as_number_of (drop l.router-index l.routers) ≡ map as_number_of l.routers
