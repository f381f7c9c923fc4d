use Rattle.srp_core.proofs.AlikeOf as problems
use Rattle.srp_core.proofs.laws.alike.problems_of_one_prefix.Goals as goal

pub returns : goal.returns
returns c = λ network prefix first second a b. problems.one_problem network prefix first second a b
