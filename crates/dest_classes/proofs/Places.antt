-- The places of keys among the different ones that came so far.
use Rattle.std.proofs.Common.{◌≡◌, ℕ, ◌+◌, Bool, true, false, cond, not, ◌||◌, List, [], ◌∷◌, ◌++◌, refl, sym, ◌∙◌, ap, true≢false, arith}
use Rattle.std.specs.Prelude.{nat_eq}
use Rattle.std.specs.List.{list_any, position_or_len}
use Rattle.std.proofs.lemmas.Bool.Decides.{nat_tests}
use Rattle.std.proofs.lemmas.List.Folds.{list_any-append}
use Rattle.indexmap.specs.IndexSet.{insert_key}
use Rattle.dest_classes.specs.Cells.{same_cell_key}
use Rattle.dest_classes.proofs.Bools.{first_of_both, second_of_both}

abbrev pub Key : Type 0
Key = ℕ × ℕ

abbrev pub place : List Key → Key → ℕ
place keys key = position_or_len (same_cell_key key) keys

abbrev pub is_known : List Key → Key → Bool
is_known keys key = list_any (same_cell_key key) keys

-- the keys, with one more if it is new
abbrev pub with_key : List Key → Key → List Key
with_key keys key = insert_key same_cell_key keys key

key_self : (a : Key) → same_cell_key a a ≡ true
key_self a = grind (arith, nat_tests)

key_one : (a b : Key) → same_cell_key a b ≡ true → a ≡ b
key_one a b same =
    let first : nat_eq a.0 b.0 ≡ true = first_of_both (nat_eq a.0 b.0) (nat_eq a.1 b.1) same in
    let second : nat_eq a.1 b.1 ≡ true = second_of_both (nat_eq a.0 b.0) (nat_eq a.1 b.1) same in
    let left : a.0 ≡ b.0 = grind (arith, nat_tests) in
    let right : a.1 ≡ b.1 = grind (arith, nat_tests) in
    ap (λ (n : ℕ). let k : Key = (n, a.1) in k) left ∙ ap (λ (n : ℕ). let k : Key = (b.0, n) in k) right

known_more : (keys more : List Key) (key : Key) → is_known keys key ≡ true → is_known (keys ++ more) key ≡ true
known_more keys more key known = list_any-append (same_cell_key key) keys more ∙ ap (λ b. b || is_known more key) known

known_last : (keys : List Key) (key : Key) → is_known (keys ++ key ∷ []) key ≡ true
known_last [] key = ap (λ b. b || false) (key_self key)
known_last (k ∷ keys) key = ap (λ b. same_cell_key key k || b) (known_last keys key) ∙ or_true (same_cell_key key k) where
  or_true : (b : Bool) → (b || true) ≡ true
  or_true true = refl
  or_true false = refl

place_kept : (keys more : List Key) (key : Key) → is_known keys key ≡ true → place (keys ++ more) key ≡ place keys key
place_kept [] more key known = absurd (true≢false (sym known))
place_kept (k ∷ keys) more key known = step (same_cell_key key k) known (place_kept keys more key) where
  step : (b : Bool) → (b || is_known keys key) ≡ true → (is_known keys key ≡ true → place (keys ++ more) key ≡ place keys key) →
      cond (not b) (1 + place (keys ++ more) key) 0 ≡ cond (not b) (1 + place keys key) 0
  step true known rest = refl
  step false known rest = ap (λ n. 1 + n) (rest known)

place_last : (keys : List Key) (key : Key) → place (keys ++ key ∷ []) key ≡ place keys key
place_last [] key = ap (λ b. cond (not b) (1 + 0) 0) (key_self key)
place_last (k ∷ keys) key = ap (λ n. cond (not (same_cell_key key k)) (1 + n) 0) (place_last keys key)

-- a key that was put in is known, at the place that it was given
pub known_here : (keys : List Key) (key : Key) → is_known (with_key keys key) key ≡ true
known_here keys key = step (is_known keys key) refl where
  step : (b : Bool) → is_known keys key ≡ b → is_known (cond b keys (keys ++ key ∷ [])) key ≡ true
  step true known = known
  step false known = known_last keys key

pub place_here : (keys : List Key) (key : Key) → place (with_key keys key) key ≡ place keys key
place_here keys key = step (is_known keys key) where
  step : (b : Bool) → place (cond b keys (keys ++ key ∷ [])) key ≡ place keys key
  step true = refl
  step false = place_last keys key

-- what was known stays so, at its place
pub known_then : (keys : List Key) (other key : Key) → is_known keys key ≡ true → is_known (with_key keys other) key ≡ true
known_then keys other key known = step (is_known keys other) where
  step : (b : Bool) → is_known (cond b keys (keys ++ other ∷ [])) key ≡ true
  step true = known
  step false = known_more keys (other ∷ []) key known

pub place_then : (keys : List Key) (other key : Key) → is_known keys key ≡ true → place (with_key keys other) key ≡ place keys key
place_then keys other key known = step (is_known keys other) where
  step : (b : Bool) → place (cond b keys (keys ++ other ∷ [])) key ≡ place keys key
  step true = refl
  step false = place_kept keys (other ∷ []) key known

not_first : (n : ℕ) → nat_eq 0 (1 + n) ≡ false
not_first n = grind (arith, nat_tests)

not_last : (n : ℕ) → nat_eq (1 + n) 0 ≡ false
not_last n = grind (arith, nat_tests)

both_later : (m n : ℕ) → nat_eq (1 + m) (1 + n) ≡ nat_eq m n
both_later m n = grind (arith, nat_tests)

-- of two keys one is x and the other is not
first_alone : (a b x : Key) → same_cell_key a x ≡ true → same_cell_key b x ≡ false → same_cell_key a b ≡ false
first_alone a b x at_x not_x = step (same_cell_key a b) refl where
  step : (t : Bool) → same_cell_key a b ≡ t → t ≡ false
  step true same = absurd (true≢false (sym at_x ∙ ap (λ k. same_cell_key k x) (key_one a b same) ∙ not_x))
  step false same = refl

second_alone : (a b x : Key) → same_cell_key a x ≡ false → same_cell_key b x ≡ true → same_cell_key a b ≡ false
second_alone a b x not_x at_x = step (same_cell_key a b) refl where
  step : (t : Bool) → same_cell_key a b ≡ t → t ≡ false
  step true same = absurd (true≢false (sym at_x ∙ sym (ap (λ k. same_cell_key k x) (key_one a b same)) ∙ not_x))
  step false same = refl

both_alike : (a b x : Key) → same_cell_key a x ≡ true → same_cell_key b x ≡ true → same_cell_key a b ≡ true
both_alike a b x at_a at_b = ap (λ k. same_cell_key k b) (key_one a x at_a) ∙ ap (same_cell_key x) (key_one b x at_b) ∙ key_self x

-- known keys have one place exactly if they are equal
pub one_place : (keys : List Key) (a b : Key) → is_known keys a ≡ true → is_known keys b ≡ true → nat_eq (place keys a) (place keys b) ≡ same_cell_key a b
one_place [] a b known other = absurd (true≢false (sym known))
one_place (x ∷ keys) a b known other = step (same_cell_key a x) (same_cell_key b x) refl refl known other (one_place keys a b) where
  step : (s t : Bool) → same_cell_key a x ≡ s → same_cell_key b x ≡ t → (s || is_known keys a) ≡ true → (t || is_known keys b) ≡ true
      → (is_known keys a ≡ true → is_known keys b ≡ true → nat_eq (place keys a) (place keys b) ≡ same_cell_key a b)
      → nat_eq (cond (not s) (1 + place keys a) 0) (cond (not t) (1 + place keys b) 0) ≡ same_cell_key a b
  step true true at_a at_b known other rest = sym (both_alike a b x at_a at_b)
  step true false at_a at_b known other rest = not_first (place keys b) ∙ sym (first_alone a b x at_a at_b)
  step false true at_a at_b known other rest = not_last (place keys a) ∙ sym (second_alone a b x at_a at_b)
  step false false at_a at_b known other rest = both_later (place keys a) (place keys b) ∙ rest known other
