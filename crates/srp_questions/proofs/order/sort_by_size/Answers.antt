use Rattle.std.proofs.Common.{rules}
use Rattle.std.proofs.lemmas.List.Sorted.{IsNonDecreasingBy-from_sort_by_key}
use Rattle.srp_questions.specs.Walks.{rank_size}
use Rattle.srp_questions.proofs.order.sort_by_size.Goals as goal

pub returns-clause-rising : goal.returns-clause-rising
returns-clause-rising c = IsNonDecreasingBy-from_sort_by_key rank_size _ c.sort_unstable_by_key.ensures.sorted (λ a r q k. search rules)
