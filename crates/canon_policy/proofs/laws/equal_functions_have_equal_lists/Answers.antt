use Rattle.canon_policy.proofs.ListLaws.{equal_lists}
use Rattle.canon_policy.proofs.laws.equal_functions_have_equal_lists.Goals as goal

pub returns : goal.returns
returns c = equal_lists
