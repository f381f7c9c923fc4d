use Rattle.std.proofs.Common.{rules, ◌<◌}
use Rattle.std.proofs.lemmas.List.Elements.{All-contains}
use Rattle.std.proofs.lemmas.List.Sorted.{IsNonDecreasingBy-from_sort_by_key, answers_always}
use Rattle.base_kit.proofs.Elements.{contains_in}
use Rattle.by_key.proofs.SortedByKey.{sorted_is}
use Rattle.route_run.specs.declared.order.Rank.{Rank}
use Rattle.route_run.specs.Ranks.{rank_size}
use Rattle.route_run.proofs.order.sort_by_size.Goals as goal

pub returns : goal.returns
returns c = λ n all. sorted_is rank_size c.args.ranks.now.items c.sort_by_key.new.self.items n
    (IsNonDecreasingBy-from_sort_by_key rank_size _ c.in_ok-sort_by_key.ensures.sorted (λ a r q k. search rules))
    (c.in_ok-sort_by_key.ensures.stable rank_size (answers_always _ _ _ (λ f a r q k. search rules)))
    (λ x at. All-contains (λ (y : Rank). y.size < n) c.args.ranks.now.items x all (contains_in c.args.ranks.now.items x at))
