use Rattle.policy_dd.proofs.SameLemmas.{equal_parts}
use Rattle.policy_dd.proofs.laws.one_form.Goals as goal

pub returns : goal.returns
returns c = λ shown a b f g is of_a of_b one. equal_parts shown is a b f g of_a of_b one
