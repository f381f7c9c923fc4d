-- The set of the numbers of lists that do not ascend.
use Rattle.std.proofs.Common.{◌≡◌, ℕ, ◌+◌, ◌<◌, ◌≤◌, Bool, true, false, not, cond, ◌&&◌, ◌||◌, ◌⊎◌, inl, inr, List, [], ◌∷◌, ◌++◌, length, map, get_or, drop, drop-cons, add-one, suc, Some, None, refl, sym, ap, ◌∙◌, arith, subst}
use Rattle.std.specs.Prelude.{nat_eq, bytes_eq}
use Rattle.std.proofs.Math.ListN.{set}
use Rattle.std.specs.List.{list_any, position}
use Rattle.std.specs.Ordering.{is_eq}
use Rattle.std.specs.BTreeSet as sorted
use Rattle.std.proofs.lemmas.Bool.Decides.{nat_tests}
use Rattle.std.proofs.lemmas.Bool.{cases_eq, cases_lt}
use Rattle.std.proofs.lemmas.Grind.{common_steps}
use Rattle.std.proofs.lemmas.List.{map_push, length_push, get_or-set_same, get_or-set_other, get_or_push, get_or_past, get_or_append_left}
use Rattle.named_lists.specs.declared.named.NamedList.{NamedList}
use Rattle.named_lists.specs.NamedLists.{named_list_name, list_at, entries_at, with_last}
use Rattle.named_lists.specs.NumberedLists.{Adds, HoldsAt, IsHeld, added, are_below, ascends, in_number_order, has_entry, has_entry_numbered, in_order, pair_order}
use Rattle.named_lists.proofs.Apart.{apart_last, has_with, has_without, none_named}
use Rattle.named_lists.proofs.Ascending.{ascends_last, has_last}
use Rattle.named_lists.proofs.ByNumber.{has_by_number}
use Rattle.numbered_names.proofs.Firsts.{parts_kept}

same_pair : (i q p s : ℕ) → is_eq (pair_order (i, q) (p, s)) ≡ (nat_eq i p && nat_eq q s)
same_pair i q p s = grind (arith, nat_tests)

either : (b c : Bool) → cond b true c ≡ (b || c)
either true c = refl
either false c = refl

-- one number more
pub adds_one : (old new : sorted.BTreeSet (ℕ × ℕ)) (place n : ℕ) → sorted.Updates pair_order old new (place, n) true → Adds old new place (nat_eq n)
adds_one old new place n updates = λ p wanted.
    updates.0 (p, wanted) ∙ ap (λ b. cond b true (sorted.contains pair_order old (p, wanted))) (same_pair place n p wanted)
    ∙ either (nat_eq place p && nat_eq n wanted) (sorted.contains pair_order old (p, wanted))

pub adds_none : (set : sorted.BTreeSet (ℕ × ℕ)) (place : ℕ) (passes : ℕ → Bool) → ((wanted : ℕ) → passes wanted ≡ false) → Adds set set place passes
adds_none set place passes none = λ p wanted.
    sym (ap (λ b. (nat_eq place p && b) || sorted.contains pair_order set (p, wanted)) (none wanted)
    ∙ nothing (nat_eq place p) (sorted.contains pair_order set (p, wanted)))
  where
    nothing : (b c : Bool) → ((b && false) || c) ≡ c
    nothing true c = refl
    nothing false c = refl

more : (b k h c : Bool) → ((b && k) || ((b && h) || c)) ≡ ((b && (h || k)) || c)
more true true true c = refl
more true true false c = refl
more true false true c = refl
more true false false c = refl
more false k h c = refl

pub adds_more : (old middle new : sorted.BTreeSet (ℕ × ℕ)) (place n : ℕ) (passes : ℕ → Bool) → Adds old middle place passes →
    sorted.Updates pair_order middle new (place, n) true → Adds old new place (λ wanted. passes wanted || nat_eq n wanted)
adds_more old middle new place n passes before updates = λ p wanted.
    adds_one middle new place n updates p wanted ∙ ap (λ b. (nat_eq place p && nat_eq n wanted) || b) (before p wanted)
    ∙ more (nat_eq place p) (nat_eq n wanted) (passes wanted) (sorted.contains pair_order old (p, wanted))

module _ {E : Type 0} (number : E → ℕ) where
  -- ---- what a call of `hold` adds

  abbrev falls : List E → ℕ → Bool
  falls xs last = not (ascends number xs && are_below number xs last)

  pub adds_past : (set : sorted.BTreeSet (ℕ × ℕ)) (place : ℕ) (xs : List E) (last : ℕ) → ascends number xs ≡ true → are_below number xs last ≡ true →
      Adds set set place (added number xs last)
  adds_past set place xs last up below = adds_none set place (added number xs last) (λ wanted. rw (up, below) refl)

  pub adds_fallen : (old new : sorted.BTreeSet (ℕ × ℕ)) (place : ℕ) (xs : List E) (last : ℕ) → ascends number xs ≡ true → are_below number xs last ≡ false →
      Adds old new place (λ wanted. has_entry_numbered number xs wanted || nat_eq last wanted) → Adds old new place (added number xs last)
  adds_fallen old new place xs last up below adds = λ p wanted. adds p wanted ∙ rw (up, below) refl

  again : (b h k c : Bool) (e : b ≡ true → c ≡ h) → ((b && k) || c) ≡ ((b && (h || k)) || c)
  again true true true c e = refl
  again true true false c e = e refl
  again true false true c e = refl
  again true false false c e = refl
  again false h k c e = refl

  same_place : (place p : ℕ) → nat_eq place p ≡ true → place ≡ p
  same_place place p e = grind (arith, nat_tests)

  pub adds_known : (old new : sorted.BTreeSet (ℕ × ℕ)) (place : ℕ) (xs : List E) (last : ℕ) → HoldsAt number old place xs → ascends number xs ≡ false →
      Adds old new place (nat_eq last) → Adds old new place (added number xs last)
  adds_known old new place xs last holds down adds = λ p wanted.
      adds p wanted ∙ again (nat_eq place p) (has_entry_numbered number xs wanted) (nat_eq last wanted) (sorted.contains pair_order old (p, wanted))
      (λ e. ap (λ (q : ℕ). sorted.contains pair_order old (q, wanted)) (sym (same_place place p e)) ∙ holds wanted
      ∙ ap (λ b. not b && has_entry_numbered number xs wanted) down) ∙ rw down refl

  -- ---- the numbers of entries, one by one

  -- those of the rest would bring in all of them
  abbrev pub AddsRest : sorted.BTreeSet (ℕ × ℕ) → sorted.BTreeSet (ℕ × ℕ) → ℕ → List E → List E → Type 0
  AddsRest old now place xs rest = (p wanted : ℕ) →
      ((nat_eq place p && has_entry_numbered number rest wanted) || sorted.contains pair_order now (p, wanted))
      ≡ ((nat_eq place p && has_entry_numbered number xs wanted)
      || sorted.contains pair_order old (p, wanted))

  pub next_added : (old now new : sorted.BTreeSet (ℕ × ℕ)) (place : ℕ) (xs : List E) (i : ℕ) (x : E) → i < length xs → x ≡ get_or xs i x →
      sorted.Updates pair_order now new (place, number x) true → AddsRest old now place xs (drop i xs) → AddsRest old new place xs (drop (i + 1) xs)
  next_added old now new place xs i x lt is updates so_far = λ p wanted.
      let rest = drop (i + 1) xs in
      ap (λ b. (nat_eq place p && has_entry_numbered number rest wanted) || b) (adds_one now new place (number x) updates p wanted)
      ∙ turned (nat_eq place p) (nat_eq (number x) wanted) (has_entry_numbered number rest wanted) (sorted.contains pair_order now (p, wanted))
      ∙ sym (ap (λ ys. (nat_eq place p && has_entry_numbered number ys wanted) || sorted.contains pair_order now (p, wanted)) (from_here xs i x lt is))
      ∙ so_far p wanted
    where
      turned : (b k h c : Bool) → ((b && h) || ((b && k) || c)) ≡ ((b && (k || h)) || c)
      turned true true true c = refl
      turned true true false c = refl
      turned true false h c = refl
      turned false k h c = refl

      from_here : (ys : List E) (j : ℕ) (y : E) → j < length ys → y ≡ get_or ys j y → drop j ys ≡ y ∷ drop (j + 1) ys
      from_here ys j y inside same = rw (add-one, drop-cons ys j y inside) (ap (λ z. z ∷ drop (suc j) ys) (sym same))

  pub all_added : (old now : sorted.BTreeSet (ℕ × ℕ)) (place : ℕ) (xs : List E) (i : ℕ) → length xs ≤ i → AddsRest old now place xs (drop i xs) →
      Adds old now place (has_entry_numbered number xs)
  all_added old now place xs i past all = λ p wanted.
      sym (ap (λ ys. (nat_eq place p && has_entry_numbered number ys wanted) || sorted.contains pair_order now (p, wanted)) (drop-past xs i past)
      ∙ nothing (nat_eq place p) (sorted.contains pair_order now (p, wanted))) ∙ all p wanted
    where
      nothing : (b c : Bool) → ((b && false) || c) ≡ c
      nothing true c = refl
      nothing false c = refl

      drop-past : (ys : List E) (j : ℕ) → length ys ≤ j → drop j ys ≡ []
      drop-past ys j le = grind (arith, common_steps)

  -- ---- an entry more

  grown : (a b h k : Bool) → ((not (a && b) && (h || k)) || (not a && h)) ≡ (not (a && b) && (h || k))
  grown true true h k = refl
  grown true false true k = refl
  grown true false false true = refl
  grown true false false false = refl
  grown false b true k = refl
  grown false b false true = refl
  grown false b false false = refl

  nat_eq_same : (j k : ℕ) → j ≡ k → nat_eq j k ≡ true
  nat_eq_same j k e = grind (arith, nat_tests)

  nat_eq_other : (j k : ℕ) → (k ≡ j → ⊥) → nat_eq j k ≡ false
  nat_eq_other j k e = grind (arith, nat_tests)

  holds_grown : (old new : sorted.BTreeSet (ℕ × ℕ)) (place : ℕ) (xs : List E) (e : E) → HoldsAt number old place xs →
      Adds old new place (added number xs (number e)) → HoldsAt number new place (xs ++ e ∷ [])
  holds_grown old new place xs e holds adds = λ wanted.
      adds place wanted ∙ ap (λ b. (b && added number xs (number e) wanted) || sorted.contains pair_order old (place, wanted)) (nat_eq_same place place refl)
      ∙ ap (λ b. added number xs (number e) wanted || b) (holds wanted)
      ∙ grown (ascends number xs) (are_below number xs (number e)) (has_entry_numbered number xs wanted) (nat_eq (number e) wanted)
      ∙ sym (ap (λ b. not b && has_entry_numbered number (xs ++ e ∷ []) wanted) (ascends_last number xs e)
      ∙ ap (λ b. falls xs (number e) && b) (has_last number xs e wanted))

  holds_other : (old new : sorted.BTreeSet (ℕ × ℕ)) (place p : ℕ) (xs : List E) (passes : ℕ → Bool) → (p ≡ place → ⊥) → HoldsAt number old p xs →
      Adds old new place passes → HoldsAt number new p xs
  holds_other old new place p xs passes apart holds adds = λ wanted.
      adds p wanted ∙ ap (λ b. (b && passes wanted) || sorted.contains pair_order old (p, wanted)) (nat_eq_other place p apart) ∙ holds wanted

  no_list : NamedList E
  no_list = record { name = []; entries = [] }

  pub held_grown : (old new : sorted.BTreeSet (ℕ × ℕ)) (ls : List (NamedList E)) (place : ℕ) (e : E) → place < length ls → IsHeld number old ls →
      Adds old new place (added number (entries_at ls place) (number e))
      → IsHeld number new (set ls place (with_last e (list_at ls place)))
  held_grown old new ls place e lt is adds =
      let l : NamedList E = with_last e (list_at ls place) in
      let none : NamedList E = record { name = []; entries = [] } in
      record {
        apart = rw (parts_kept named_list_name ls place l none lt refl) is.apart;
        held = λ p. elim (cases_eq p place) [
          | inl same ↦ subst (λ q. HoldsAt number new q (entries_at (set ls place l) q)) (sym same)
              (subst (HoldsAt number new place) (sym (ap (λ (m : NamedList E). m.entries) (get_or-set_same ls place l none lt)))
              (holds_grown old new place (entries_at ls place) e (is.held place) adds))
          | inr other ↦ subst (HoldsAt number new p) (sym (ap (λ (m : NamedList E). m.entries) (get_or-set_other ls place p l none other)))
              (holds_other old new place p (entries_at ls p) (added number (entries_at ls place) (number e)) other (is.held p) adds)
        ];
      }

  -- ---- a new list

  new_at : (ls : List (NamedList E)) (l : NamedList E) (p : ℕ) → (p < length ls) ⊎ (length ls ≤ p) → ascends number l.entries ≡ true →
      (held : sorted.BTreeSet (ℕ × ℕ)) → HoldsAt number held p (entries_at ls p) → HoldsAt number held p (entries_at (ls ++ l ∷ []) p)
  new_at ls l p (inl inside) up held holds =
      subst (HoldsAt number held p) (sym (ap (λ (m : NamedList E). m.entries) (get_or_append_left ls (l ∷ []) (record { name = []; entries = [] }) p inside)))
      holds
  new_at ls l p (inr past) up held holds = λ wanted.
      let none : NamedList E = record { name = []; entries = [] } in
      holds wanted ∙ ap (λ (m : NamedList E). not (ascends number m.entries) && has_entry_numbered number m.entries wanted) (get_or_past ls p none past)
      ∙ sym (elim (cases_eq p (length ls)) [
        | inl same ↦ ap (λ (m : NamedList E). not (ascends number m.entries) && has_entry_numbered number m.entries wanted) (get_or_push ls l none p (sym same))
            ∙ ap (λ b. not b && has_entry_numbered number l.entries wanted) up
        | inr other ↦ ap (λ (m : NamedList E). not (ascends number m.entries) && has_entry_numbered number m.entries wanted)
            (get_or_past (ls ++ l ∷ []) p none (omega (arith, length_push ls l, differs p (length ls) other past)))
      ])
    where
      differs : (p n : ℕ) → (p ≡ n → ⊥) → n ≤ p → n < p
      differs p n apart le = grind (arith, nat_tests)

  pub held_begun : (held : sorted.BTreeSet (ℕ × ℕ)) (ls : List (NamedList E)) (name : List ℕ) (e : E) → position (λ l. bytes_eq l.name name) ls ≡ None →
      IsHeld number held ls → IsHeld number held (ls ++ record { name = name; entries = e ∷ [] } ∷ [])
  held_begun held ls name e absent is =
      let l : NamedList E = record { name = name; entries = e ∷ [] } in
      record {
        apart = rw (map_push named_list_name ls l) (apart_last (map named_list_name ls) name (none_named named_list_name ls name absent) is.apart);
        held = λ p. new_at ls l p (cases_lt p (length ls)) refl held (is.held p);
      }

  -- ---- whether an entry is there

  any_map : {X Z : Type 0} (test : Z → Bool) (f : X → Z) (xs : List X) → list_any test (map f xs) ≡ list_any (λ x. test (f x)) xs
  any_map test f [] = refl
  any_map test f (x ∷ xs) = ap (λ b. test (f x) || b) (any_map test f xs)

  pub has_at : (held : sorted.BTreeSet (ℕ × ℕ)) (ls : List (NamedList E)) (name : List ℕ) (wanted place : ℕ) → IsHeld number held ls →
      position (λ l. bytes_eq l.name name) ls ≡ Some place
      → has_entry_numbered number (entries_at ls place) wanted ≡ has_entry number (map (in_order number) ls) name wanted
  unfolding has_entry
  has_at held ls name wanted place is found =
      let here : NamedList E → Bool = λ l. has_entry_numbered number (in_number_order number l.entries) wanted in
      sym (has_by_number number (entries_at ls place) wanted)
      ∙ sym (has_with named_list_name name here ls place (record { name = []; entries = [] }) is.apart found)
      ∙ sym (any_map (λ (l : NamedList E). bytes_eq l.name name && has_entry_numbered number l.entries wanted) (in_order number) ls)

  pub has_nowhere : (ls : List (NamedList E)) (name : List ℕ) (wanted : ℕ) → position (λ l. bytes_eq l.name name) ls ≡ None →
      false ≡ has_entry number (map (in_order number) ls) name wanted
  unfolding has_entry
  has_nowhere ls name wanted none =
      sym (any_map (λ (l : NamedList E). bytes_eq l.name name && has_entry_numbered number l.entries wanted) (in_order number) ls
      ∙ has_without named_list_name name (λ (l : NamedList E). has_entry_numbered number (in_number_order number l.entries) wanted) ls none)
