-- The members of blocks, in the order of the blocks' least members.
use Rattle.std.proofs.Common.{◌≡◌, ◌≢◌, ℕ, zero, suc, ◌+◌, ◌-◌, ◌<◌, ◌≤◌, Bool, true, false, cond, nat_eq, List, [], ◌∷◌, ◌++◌, length, get_or, slice_index_or, slice_set, map, All, filter, refl, sym, ◌∙◌, ap, arith, add-one, inl, inr}
use Rattle.std.specs.Prelude.{slice_index, ◌==◌}
use Rattle.std.specs.List.{range_with_len}
use Rattle.std.proofs.lemmas.Bool.{cases_eq}
use Rattle.std.proofs.lemmas.List.{get_or-set_same, get_or-set_other, append-nil, ext_get_or}
use Rattle.std.proofs.lemmas.List.FromFn.{length-range_with_len, get_or-range_with_len}
use Rattle.std.proofs.lemmas.List.Elements.{filter-append, All-filter, All-cons, All-from_get_or}
use Rattle.std.proofs.Math.ListN.{length-set}
use Rattle.base_kit.specs.Partition.{members_among, members_of}
use Rattle.cut_certificate.specs.Blocks.{distinct, place_among, number_among, groups_of}
use Rattle.cut_certificate.specs.Members.{AreGroupsAmong}
use Rattle.cut_certificate.proofs.Seen.{same_test, other_test, at_place, distinct_has, distinct_own}
use Rattle.cut_certificate.proofs.Used.{map_at, map_long}

range_more : (a n j : ℕ) → a + n ≡ j → range_with_len a (suc n) ≡ range_with_len a n ++ j ∷ []
range_more a zero j e = ap (λ i. i ∷ []) (omega arith)
range_more a (suc n) j e = ap (λ (xs : List ℕ). a ∷ xs) (range_more (a + 1) n j (omega arith))

-- one more router among the first
members_next : (numbers : List ℕ) (count block : ℕ) → members_among (count + 1) numbers block ≡ members_among count numbers block
    ++ cond (nat_eq (slice_index numbers count) block) (count ∷ []) []
members_next numbers count block =
    let p : ℕ → Bool = λ router. slice_index numbers router == block in
    ap (λ n. filter p (range_with_len 0 n)) (add-one count) ∙ ap (filter p) (range_more 0 count count (omega arith))
    ∙ filter-append p (range_with_len 0 count) (count ∷ [])

pub members_none : (numbers : List ℕ) (groups : List (List ℕ)) → All (λ l. l ≡ []) groups → AreGroupsAmong 0 numbers groups
members_none numbers groups empty = record { each = λ k d inside. empty k d inside }

pub members_more : (numbers : List ℕ) (groups : List (List ℕ)) (router number : ℕ) (old new : List ℕ) → AreGroupsAmong router numbers groups
    → slice_index numbers router ≡ number → 0 < number → number ≤ length groups
    → old ≡ slice_index_or groups (number - 1) old → new ≡ old ++ router ∷ [] → AreGroupsAmong (router + 1) numbers (slice_set groups (number - 1) new)
members_more numbers groups router number old new before is some few read pushed = record {
  each = λ k d within.
      let inside : number - 1 < length groups = omega arith in
      let within' : k < length groups = omega (arith, length-set groups (number - 1) new) in
      elim (cases_eq k (number - 1)) [
        | inl e ↦
            let here : slice_index_or (slice_set groups (number - 1) new) k d ≡ new = ap (λ b. slice_index_or (slice_set groups (number - 1) new) b d) e
            ∙ get_or-set_same groups (number - 1) new d inside in
            let block : number - 1 + 1 ≡ k + 1 = omega arith in
            let was : old ≡ members_among router numbers (k + 1) = read ∙ before.each (number - 1) old inside ∙ ap (members_among router numbers) block in
            let test : nat_eq (slice_index numbers router) (k + 1) ≡ true = same_test _ _ (is ∙ omega arith) in
            here ∙ pushed ∙ ap (λ (xs : List ℕ). xs ++ router ∷ []) was
            ∙ sym (members_next numbers router (k + 1) ∙ ap (λ t. members_among router numbers (k + 1) ++ cond t (router ∷ []) []) test)
        | inr ne ↦
            let there : slice_index_or (slice_set groups (number - 1) new) k d ≡ slice_index_or groups k d = get_or-set_other groups (number - 1) k new d ne in
            let test : nat_eq (slice_index numbers router) (k + 1) ≡ false =
            other_test _ _ (λ same. ne (let e : number ≡ k + 1 = sym is ∙ same in omega arith)) in
            there ∙ before.each k d within' ∙ sym (members_next numbers router (k + 1)
            ∙ ap (λ t. members_among router numbers (k + 1) ++ cond t (router ∷ []) []) test ∙ append-nil _)
      ];
}

filter_same : (p q : ℕ → Bool) (a n : ℕ) → ((u : ℕ) → a ≤ u → u < a + n → p u ≡ q u) → filter p (range_with_len a n) ≡ filter q (range_with_len a n)
filter_same p q a zero same = refl
filter_same p q a (suc n) same =
    ap (λ b. cond b (a ∷ filter p (range_with_len (a + 1) n)) (filter p (range_with_len (a + 1) n))) (same a (omega arith) (omega arith))
    ∙ ap (λ (xs : List ℕ). cond (q a) (a ∷ xs) xs) (filter_same p q (a + 1) n (λ u low high. same u (omega arith) (omega arith)))

pub groups_are : (numbers : List ℕ) (groups : List (List ℕ)) → AreGroupsAmong (length numbers) (map (number_among numbers) numbers) groups
    → length groups ≡ length (distinct numbers) → groups ≡ groups_of numbers
unfolding groups_of
groups_are numbers groups are total = ext_get_or [] groups (map (members_of numbers) (distinct numbers))
    (total ∙ sym (map_long (members_of numbers) (distinct numbers)))
    (λ k inside.
    let h : k < length (distinct numbers) = omega arith in
    are.each k [] inside ∙ members_same k h ∙ sym (map_to (distinct numbers) k h))
  where
    places : List ℕ
    places = map (number_among numbers) numbers

    map_to : (xs : List ℕ) (k : ℕ) → k < length xs → get_or (map (members_of numbers) xs) k [] ≡ members_of numbers (get_or xs k 0)
    map_to [] k lt = absurd (omega arith)
    map_to (x ∷ xs) zero lt = refl
    map_to (x ∷ xs) (suc k) lt = map_to xs k (omega arith)

    members_same : (k : ℕ) → k < length (distinct numbers) → members_among (length numbers) places (k + 1) ≡ members_of numbers (get_or (distinct numbers) k 0)
    members_same k h = filter_same (λ u. slice_index places u == k + 1) (λ u. slice_index numbers u == get_or (distinct numbers) k 0) 0 (length numbers)
        (λ u low high.
        let inside : u < length numbers = omega arith in
        let n = get_or numbers u 0 in
        let at : slice_index places u ≡ place_among (distinct numbers) n + 1 = map_at (number_among numbers) numbers u inside in
        elim (cases_eq n (get_or (distinct numbers) k 0)) [
          | inl e ↦
              let place : place_among (distinct numbers) n ≡ k = ap (place_among (distinct numbers)) e ∙ distinct_own numbers k h in
              same_test _ _ (at ∙ ap (λ p. p + 1) place) ∙ sym (same_test _ _ e)
          | inr ne ↦
              let apart : slice_index places u ≢ k + 1 = λ e.
              ne (sym (at_place (distinct numbers) n (distinct_has numbers u inside))
              ∙ ap (λ j. get_or (distinct numbers) j 0) (let place : place_among (distinct numbers) n ≡ k = omega arith in place)) in
              other_test _ _ apart ∙ sym (other_test _ _ ne)
        ])

all_map : {X Y : Type 0} (P : Y → Type 0) (f : X → Y) (xs : List X) → ((x : X) → P (f x)) → All P (map f xs)
all_map P f [] each = λ k d inside. absurd (omega arith)
all_map P f (x ∷ xs) each = All-cons P (f x) (map f xs) (each x) (all_map P f xs each)

-- members are routers
pub members_in_range : (numbers : List ℕ) (block : ℕ) → All (λ router. router < length numbers) (members_of numbers block)
members_in_range numbers block =
    All-filter (λ router. slice_index numbers router == block) (λ router. router < length numbers) (range_with_len 0 (length numbers))
    (All-from_get_or (λ router. router < length numbers) (range_with_len 0 (length numbers)) 0 (λ i inside.
    let size = length-range_with_len 0 (length numbers) in
    let inside' : i < length numbers = omega arith in
    let at = get_or-range_with_len 0 (length numbers) i 0 inside' in
    omega arith))

pub groups_in_range : (numbers : List ℕ) → All (All (λ router. router < length numbers)) (groups_of numbers)
unfolding groups_of
groups_in_range numbers = all_map (All (λ router. router < length numbers)) (members_of numbers) (distinct numbers) (members_in_range numbers)
