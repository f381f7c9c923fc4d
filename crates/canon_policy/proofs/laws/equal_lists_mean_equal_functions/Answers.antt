use Rattle.canon_policy.proofs.ListLaws.{equal_functions}
use Rattle.canon_policy.proofs.laws.equal_lists_mean_equal_functions.Goals as goal

pub returns : goal.returns
returns c = equal_functions
