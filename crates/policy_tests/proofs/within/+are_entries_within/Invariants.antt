use Rattle.std.proofs.Common.{length}
use Rattle.policy_tests.proofs.within.+are_entries_within.Given as goal

abbrev pub decreases-are_entries_within : goal.decreases-are_entries_within
decreases-are_entries_within l = length l.entries.now
