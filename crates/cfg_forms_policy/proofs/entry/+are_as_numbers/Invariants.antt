use Rattle.std.proofs.Common.{length}
use Rattle.cfg_forms_policy.proofs.entry.+are_as_numbers.Given as goal

abbrev pub decreases-are_as_numbers : goal.decreases-are_as_numbers
decreases-are_as_numbers l = length l.words.now
