use Rattle.dd_core.proofs.DifferLemmas.{same_place_on_sets}
use Rattle.dd_core.proofs.laws.equal_values_have_one_number.Goals as goal

pub returns : goal.returns
returns c = λ shown a b is inside inside' agree. same_place_on_sets shown is a b inside inside' agree
