use Rattle.std.proofs.Common.{◌≡◌, length}
use Rattle.problem_tests.proofs.groups.plain.Given as goal

abbrev pub invariant-loop-round : goal.invariant-loop-round
invariant-loop-round l = length l.groups.items ≡ l.graph.count
