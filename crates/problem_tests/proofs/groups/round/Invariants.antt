use Rattle.std.proofs.Common.{◌≡◌, length}
use Rattle.problem_tests.proofs.groups.round.Given as goal

abbrev pub invariant-loop-router : goal.invariant-loop-router
invariant-loop-router l = length l.leaders.items ≡ l.router
