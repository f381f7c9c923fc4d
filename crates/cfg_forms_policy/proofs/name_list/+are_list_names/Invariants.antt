use Rattle.std.proofs.Common.{length}
use Rattle.cfg_forms_policy.proofs.name_list.+are_list_names.Given as goal

abbrev pub decreases-are_list_names : goal.decreases-are_list_names
decreases-are_list_names l = length l.words.now
