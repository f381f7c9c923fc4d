use Rattle.std.proofs.Common.{rules}
use Rattle.std.proofs.lemmas.List.Sorted.{answers_always}
use Rattle.cfg_check.specs.Blocks.{is_beyond}
use Rattle.cfg_check.proofs.RisingSubnets.{none_if_rising}
use Rattle.cfg_check.proofs.overlaps.are_rising.Goals as goal

pub returns-clause-adjacent : goal.returns-clause-adjacent
returns-clause-adjacent c = c.is_sorted_by.ensures.cases is_beyond (answers_always _ _ _ (λ f a r q k. search rules))

pub returns-clause-none : goal.returns-clause-none
returns-clause-none c =
    none_if_rising c.args.addresses.now c.is_sorted_by.result (c.is_sorted_by.ensures.cases is_beyond (answers_always _ _ _ (λ f a r q k. search rules)))
