use Rattle.std.proofs.Common.{rules, ◌≡◌, ℕ, ◌≤◌, ◌+◌, get_or, true, ap, ◌∙◌, arith, refl}
use Rattle.std.specs.Ordering.{nat_cmp, is_le}
use Rattle.std.proofs.lemmas.Bool.Decides.{nat_tests}
use Rattle.std.proofs.lemmas.List.Sorted.{IsNonDecreasingBy-from_sort_by_key, IsNonDecreasingBy-from_all_adjacent, answers_always}
use Rattle.named_lists.specs.NumberedLists.{in_number_order}
use Rattle.named_lists.proofs.ByNumber.{sorted_by_number}
use Rattle.named_lists.proofs.numbered.by_number.Goals as goal
use Rattle.named_lists.proofs.numbered.by_number.Goals.{then-not-is_sorted_by_key+in_ok-sort_by_key, else-not-is_sorted_by_key}

le_of : (a b : ℕ) → true ≡ is_le (nat_cmp a b) → a ≤ b
le_of a b e = grind (arith, nat_tests)

pub returns : goal.returns
returns g c =
    let xs = c.into_vec-entries.result.items in
    c.from_vec.ensures ∙ elim c.if-not-is_sorted_by_key.branch [
      | then-not-is_sorted_by_key+in_ok-sort_by_key w ↦
          rw w.entries-is (sorted_by_number g.E.Numbered.number xs w.sort_by_key.new.self.items
          (IsNonDecreasingBy-from_sort_by_key g.E.Numbered.number _ w.in_ok-sort_by_key.ensures.sorted (λ a r q k. search rules))
          (w.in_ok-sort_by_key.ensures.stable g.E.Numbered.number (answers_always _ _ _ (λ f a r q k. search rules))))
      | else-not-is_sorted_by_key w ↦
          let pairs = rw c.deref.ensures.value at w.if-not-is_sorted_by_key.ensures.cases g.E.Numbered.number (answers_always _ _ _ (λ f a r q k. search rules))
          in
          rw w.entries-is (sorted_by_number g.E.Numbered.number xs xs
          (IsNonDecreasingBy-from_all_adjacent g.E.Numbered.number xs
          (λ k d lt. le_of (g.E.Numbered.number (get_or xs k d)) (g.E.Numbered.number (get_or xs (k + 1) d)) (pairs k d lt))) (λ x. refl))
    ] ∙ ap (in_number_order g.E.Numbered.number) c.into_vec-entries.ensures
