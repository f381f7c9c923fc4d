use Rattle.std.proofs.Common.{length}
use Rattle.policy_tests.proofs.within.+are_lines_within.Given as goal

abbrev pub decreases-are_lines_within : goal.decreases-are_lines_within
decreases-are_lines_within l = length l.lines.now
