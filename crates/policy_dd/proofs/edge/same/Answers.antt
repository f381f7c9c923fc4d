use Rattle.policy_dd.proofs.SameLemmas.{one_import, equal_parts}
use Rattle.policy_dd.proofs.edge.same.Goals as goal

pub returns-clause-same : goal.returns-clause-same
returns-clause-same c = λ f g of_a of_b is. one_import _ _ _ f g of_a of_b (c.has_equal_parts.ensures.equal is)

pub returns-clause-different : goal.returns-clause-different
returns-clause-different c = λ f g of_a of_b one. c.has_equal_parts.ensures.different (equal_parts _ c.len-known.ensures.shown _ _ f g of_a of_b one)
