-- Tables of the keys that matter.
use Rattle.std.proofs.Common.{◌≡◌, ◌≢◌, ℕ, zero, suc, ◌<◌, Bool, true, false, ◌||◌, nat_eq, List, [], ◌∷◌, ◌++◌, ◌⊎◌, length, get_or, take, refl, sym, ◌∙◌, ap, arith, inl, inr}
use Rattle.std.specs.Prelude.{if◌then◌else◌}
use Rattle.std.proofs.lemmas.Bool.{cases_eq}
use Rattle.base_kit.specs.Sets.{has, AllAbove, IsAscending}
use Rattle.base_kit.proofs.SetFacts.{same_number, other_number}
use Rattle.dd_core.specs.Sets.{Shown, value_of, Means, Grows}
use Rattle.policy_dd.specs.Edge.{case_or, keys_of, IsCase, AllCases, AreCases}
use Rattle.policy_dd.specs.Tables.{IsPushedUnlessPlain, IsSelection}
use Rattle.policy_dd.specs.Tables.IsPushedUnlessPlain.{pushed, left_out}
use Rattle.policy_dd.proofs.CaseLemmas.{case_here, case_later, case_absent}
use Rattle.policy_dd.proofs.KeptLemmas.{all_cases_kept, case_or_kept}
use Rattle.policy_dd.proofs.TableLemmas.{has-append, case-append, keys-append}

-- lists that ascend
above_push : (n x : ℕ) (xs : List ℕ) → AllAbove n xs → n < x → AllAbove n (xs ++ x ∷ [])
above_push n x [] all lt = (lt, tt)
above_push n x (y ∷ ys) all lt = (all.0, above_push n x ys all.1 lt)

or_there : (a b : Bool) → b ≡ true → a || b ≡ true
or_there true b e = refl
or_there false b e = e

pub ascending_push : (xs : List ℕ) (x : ℕ) → IsAscending xs → ((k : ℕ) → has xs k ≡ true → k < x) → IsAscending (xs ++ x ∷ [])
ascending_push [] x up below = (tt, tt)
ascending_push (y ∷ ys) x up below =
    (above_push y x ys up.0 (below y (rw (same_number y y refl) refl)), ascending_push ys x up.1 (λ k there. below k (or_there (nat_eq y k) (has ys k) there)))

-- the value under the key of a case of the table
above_key : (n : ℕ) (cases : List (ℕ × ℕ)) (i : ℕ) → AllAbove n (keys_of cases) → i < length cases → n < (get_or cases i (0, 0)).0
above_key n [] i all inside = absurd (omega arith)
above_key n (case ∷ cases) zero all inside = all.0
above_key n (case ∷ cases) (suc i) all inside = above_key n cases i all.1 (omega arith)

pub case_of_index : (shown : Shown) (set : List ℕ) (cases : List (ℕ × ℕ)) (i : ℕ) (other : Bool) → IsAscending (keys_of cases) → i < length cases →
    case_or shown set cases (get_or cases i (0, 0)).0 other ≡ value_of shown set (get_or cases i (0, 0)).1
case_of_index shown set [] i other up inside = absurd (omega arith)
case_of_index shown set (case ∷ cases) zero other up inside = case_here shown set case cases case.0 other refl
case_of_index shown set (case ∷ cases) (suc i) other up inside =
    let lt = above_key case.0 cases i up.0 (omega arith) in
    case_later shown set case cases (get_or cases i (0, 0)).0 other (omega arith) ∙ case_of_index shown set cases i other up.1 (omega arith)

pub below_at : (cases : List (ℕ × ℕ)) (i : ℕ) → IsAscending (keys_of cases) → i < length cases → (k : ℕ) → has (keys_of (take i cases)) k ≡ true →
    k < (get_or cases i (0, 0)).0
below_at [] i up inside k there = absurd (omega arith)
below_at (case ∷ cases) zero up inside k there = absurd cc
below_at (case ∷ cases) (suc i) up inside k there = elim (cases_eq case.0 k) [
  | inl e ↦ let lt = above_key case.0 cases i up.0 (omega arith) in omega arith
  | inr ne ↦ below_at cases i up.1 (omega arith) k (rw (other_number case.0 k ne) at there)
]

above_number : (n : ℕ) (xs : List ℕ) (i : ℕ) → AllAbove n xs → i < length xs → n < get_or xs i 0
above_number n [] i all inside = absurd (omega arith)
above_number n (x ∷ xs) zero all inside = all.0
above_number n (x ∷ xs) (suc i) all inside = above_number n xs i all.1 (omega arith)

pub below_number : (xs : List ℕ) (i : ℕ) → IsAscending xs → i < length xs → (k : ℕ) → has (take i xs) k ≡ true → k < get_or xs i 0
below_number [] i up inside k there = absurd (omega arith)
below_number (x ∷ xs) zero up inside k there = absurd cc
below_number (x ∷ xs) (suc i) up inside k there = elim (cases_eq x k) [
  | inl e ↦ let lt = above_number x xs i up.0 (omega arith) in omega arith
  | inr ne ↦ below_number xs i up.1 (omega arith) k (rw (other_number x k ne) at there)
]

pub has_key_at : (cases : List (ℕ × ℕ)) (i : ℕ) → i < length cases → has (keys_of cases) (get_or cases i (0, 0)).0 ≡ true
has_key_at [] i inside = absurd (omega arith)
has_key_at (case ∷ cases) zero inside = rw (same_number case.0 case.0 refl) refl
has_key_at (case ∷ cases) (suc i) inside =
    or_there (nat_eq case.0 (get_or cases i (0, 0)).0) (has (keys_of cases) (get_or cases i (0, 0)).0) (has_key_at cases i (omega arith))

all_cases_append : (shown : Shown) (other : ℕ → List ℕ → Bool) (xs : List (ℕ × ℕ)) (y : ℕ × ℕ) → AllCases shown other xs → IsCase shown other y →
    AllCases shown other (xs ++ y ∷ [])
all_cases_append shown other [] y all is = (is, tt)
all_cases_append shown other (x ∷ xs) y all is = (all.0, all_cases_append shown other xs y all.1 is)

-- the selection of no keys, and of one more
pub selection_none : (shown : Shown) (other test : ℕ → List ℕ → Bool) → IsSelection shown other test [] []
selection_none shown other test = record { each = tt; ascending = tt; keys_are = λ k there. there; value = λ set k. refl }

or_false : (b : Bool) → b || false ≡ b
or_false true = refl
or_false false = refl

module _ (mid new : Shown) (other test : ℕ → List ℕ → Bool) (keys : List ℕ) (cases : List (ℕ × ℕ)) (key node plain : ℕ) (g : Grows mid new)
    (selection : IsSelection mid other test keys cases) (below : (k : ℕ) → has keys k ≡ true → k < key)
    (of_node : Means new node (λ set. test key set)) (of_plain : Means new plain (λ set. other key set)) where
  new_key : (b : Bool) → has keys key ≡ b → b ≡ false
  new_key true e = let lt = below key e in absurd (omega arith)
  new_key false e = refl

  not_there : has keys key ≡ false
  not_there = new_key (has keys key) refl

  case_key : (b : Bool) → has (keys_of cases) key ≡ b → b ≡ false
  case_key true e = let there = selection.keys_are key e in let none = not_there in absurd cc
  case_key false e = refl

  no_case : has (keys_of cases) key ≡ false
  no_case = case_key (has (keys_of cases) key) refl

  value_before : (set : List ℕ) (k : ℕ) → case_or new set cases k (other k set) ≡ (if has keys k then test k set else other k set)
  value_before set k = case_or_kept mid new g other cases selection.each set k (other k set) ∙ selection.value set k

  has_last : (k : ℕ) → has (keys ++ key ∷ []) k ≡ has keys k || nat_eq key k
  has_last k = has-append keys (key ∷ []) k ∙ ap (λ b. has keys k || b) (or_false (nat_eq key k))

  value_left : ((set : List ℕ) → value_of new set node ≡ value_of new set plain) → (set : List ℕ) (k : ℕ) → (key ≡ k) ⊎ (key ≢ k) →
      (if has keys k then test k set else other k set) ≡ (if has keys k || nat_eq key k then test k set else other k set)
  value_left same set k (inl e) =
      let none : has keys k ≡ false = ap (has keys) (sym e) ∙ not_there in
      let equal : other k set ≡ test k set = ap (λ n. other n set) (sym e) ∙ sym (of_plain.value set) ∙ sym (same set) ∙ of_node.value set
      ∙ ap (λ n. test n set) e in
      rw (none, same_number key k e) equal
  value_left same set k (inr ne) = rw (other_number key k ne, or_false (has keys k)) refl

  value_pushed : (set : List ℕ) (k : ℕ) → (key ≡ k) ⊎ (key ≢ k) →
      case_or new set cases k (if nat_eq key k then value_of new set node else other k set) ≡ (if has keys k || nat_eq key k then test k set else other k set)
  value_pushed set k (inl e) =
      let none : has keys k ≡ false = ap (has keys) (sym e) ∙ not_there in
      let absent : has (keys_of cases) k ≡ false = ap (has (keys_of cases)) (sym e) ∙ no_case in
      rw (none, same_number key k e) (case_absent new set cases k (value_of new set node) absent ∙ of_node.value set ∙ ap (λ n. test n set) e)
  value_pushed set k (inr ne) = rw (other_number key k ne, or_false (has keys k)) (value_before set k)

  pub selection_more : (r : List (ℕ × ℕ)) → IsPushedUnlessPlain new cases r key node plain → IsSelection new other test (keys ++ key ∷ []) r
  selection_more r (left_out e same) = rw e (record {
    each = all_cases_kept mid new g other other (λ k set. refl) cases selection.each;
    ascending = selection.ascending;
    keys_are = λ k there. has_last k ∙ rw (selection.keys_are k there) refl;
    value = λ set k. value_before set k ∙ value_left same set k (cases_eq key k) ∙ ap (λ b. if b then test k set else other k set) (sym (has_last k));
  })
  selection_more r (pushed e differ) = rw e (record {
    each = all_cases_append new other cases (key, node) (all_cases_kept mid new g other other (λ k set. refl) cases selection.each) (record {
      inside = of_node.inside;
      set = differ.set;
      ascending = differ.ascending;
      differ = λ same. differ.differ (same ∙ sym (of_plain.value differ.set));
    });
    ascending = rw (keys-append cases ((key, node) ∷ []))
        (ascending_push (keys_of cases) key selection.ascending (λ k there. below k (selection.keys_are k there)));
    keys_are = λ k there. has_last k ∙ in_either k (has keys k) refl
        (sym (ap (λ (l : List ℕ). has l k) (keys-append cases ((key, node) ∷ [])) ∙ has-append (keys_of cases) (key ∷ []) k) ∙ there);
    value = λ set k. case-append new set cases ((key, node) ∷ []) k (other k set) ∙ value_pushed set k (cases_eq key k)
        ∙ ap (λ b. if b then test k set else other k set) (sym (has_last k));
  })
    where
      in_either : (k : ℕ) (b : Bool) → has keys k ≡ b → has (keys_of cases) k || (nat_eq key k || false) ≡ true → b || nat_eq key k ≡ true
      in_either k true e there = refl
      in_either k false e there = sym (or_false (nat_eq key k)) ∙ by (has (keys_of cases) k) refl there
        where
          by : (d : Bool) → has (keys_of cases) k ≡ d → d || (nat_eq key k || false) ≡ true → nat_eq key k || false ≡ true
          by true e' there' = let in_keys = selection.keys_are k e' in absurd cc
          by false e' there' = there'

pub selection_cases : (shown : Shown) (other test : ℕ → List ℕ → Bool) (keys : List ℕ) (cases : List (ℕ × ℕ)) → IsSelection shown other test keys cases →
    AreCases shown other cases
selection_cases shown other test keys cases selection = record { ascending = selection.ascending; each = selection.each }

pub has_index : (xs : List ℕ) (i : ℕ) → i < length xs → has xs (get_or xs i 0) ≡ true
has_index [] i inside = absurd (omega arith)
has_index (x ∷ xs) zero inside = rw (same_number x x refl) refl
has_index (x ∷ xs) (suc i) inside = or_there (nat_eq x (get_or xs i 0)) (has xs (get_or xs i 0)) (has_index xs i (omega arith))
