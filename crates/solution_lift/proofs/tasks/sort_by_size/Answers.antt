use Rattle.std.proofs.Common.{rules, ◌<◌}
use Rattle.std.proofs.lemmas.List.Elements.{All-contains}
use Rattle.std.proofs.lemmas.List.Sorted.{IsNonDecreasingBy-from_sort_by_key, answers_always}
use Rattle.base_kit.proofs.Elements.{contains_in}
use Rattle.by_key.proofs.SortedByKey.{sorted_is}
use Rattle.solution_lift.specs.declared.tasks.Task.{Task}
use Rattle.solution_lift.specs.Carrying.{size_key}
use Rattle.solution_lift.proofs.tasks.sort_by_size.Goals as goal

pub returns : goal.returns
returns c = λ n all. sorted_is size_key c.args.tasks.now.items c.sort_by_key.new.self.items n
    (IsNonDecreasingBy-from_sort_by_key size_key _ c.in_ok-sort_by_key.ensures.sorted (λ a r q k. search rules))
    (c.in_ok-sort_by_key.ensures.stable size_key (answers_always _ _ _ (λ f a r q k. search rules)))
    (λ x at. All-contains (λ (y : Task). y.size < n) c.args.tasks.now.items x all (contains_in c.args.tasks.now.items x at))
