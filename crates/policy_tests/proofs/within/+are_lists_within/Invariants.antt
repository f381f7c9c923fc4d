use Rattle.std.proofs.Common.{length}
use Rattle.policy_tests.proofs.within.+are_lists_within.Given as goal

abbrev pub decreases-are_lists_within : goal.decreases-are_lists_within
decreases-are_lists_within l = length l.lists.now
