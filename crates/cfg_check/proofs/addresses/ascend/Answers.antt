use Rattle.std.proofs.Common.{rules, nat_lt}
use Rattle.std.proofs.lemmas.List.Sorted.{answers_always}
use Rattle.cfg_check.proofs.addresses.ascend.Goals as goal

pub returns : goal.returns
returns c = c.is_sorted_by.ensures.cases nat_lt (answers_always _ _ _ (λ f a r q k. search rules))
