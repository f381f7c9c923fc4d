use Rattle.std.proofs.Common.{sym, ◌∙◌, ◌≡◌}
use Rattle.policy_dd.specs.Compare.{keys_differ}
use Rattle.policy_dd.proofs.SeveralLemmas.{several_differ, one_preference}
use Rattle.policy_dd.proofs.edge.several.Goals as goal

value : (c : goal.After-differ) → c.differ.result ≡ keys_differ c.args.a.now.lps c.args.b.now.lps
value c = rw (← c.as_slice.ensures, ← c.as_slice-2.ensures) c.differ.ensures

pub returns-clause-several : goal.returns-clause-several
returns-clause-several c = λ f g of_a of_b is. several_differ _ _ _ f g of_a of_b (sym (value c) ∙ is)

pub returns-clause-one : goal.returns-clause-one
returns-clause-one c = λ f g of_a of_b is. one_preference _ _ _ f g of_a of_b (sym (value c) ∙ is)
