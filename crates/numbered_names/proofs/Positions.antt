-- The first place of a name. Public: crates above cite these lemmas.
use Rattle.std.proofs.Common.{◌≡◌, ℕ, zero, suc, ◌+◌, ◌<◌, Bool, true, false, cond, List, [], ◌∷◌, length, Option, Some, None, String, IsSome, string_bytes, refl, sym, ap, subst, ◌∙◌, arith, option_map, true≢false}
use Rattle.std.specs.Prelude.{bytes_eq, find, nat_lt, slice_get}
use Rattle.std.specs.List.{position, position_or_len}
use Rattle.std.specs.Option.{option_and_then}
use Rattle.std.specs.Str.{IsUtf8}
use Rattle.std.specs.Map.{lookup}
use Rattle.std.proofs.lemmas.Bool.Decides.{nat_tests}
use Rattle.std.proofs.lemmas.List.Folds.{find_at}
use Rattle.std.proofs.lemmas.Slice.Eq.{bytes_eq-Decides}
use Rattle.std.proofs.Math.Logic.{∥∥₁_elim}
use Rattle.std.proofs.Props.{props}
use Rattle.numbered_names.proofs.Firsts.{position_same}
pub use Rattle.numbered_names.proofs.Firsts.{bytes_eq-sym}
use Rattle.numbered_names.specs.NamePlaces.{ArePlacesOf, AreBelow, place_in}
use Rattle.numbered_names.specs.declared.places.NamePlaces.{NamePlaces}

-- ---- the first that passes

-- so many places on
abbrev pub moved : ℕ → Option ℕ → Option ℕ
moved n found = option_map (λ k. n + k) found

first_by : {X : Type 0} (test : X → Bool) (x : X) (xs : List X) (n : ℕ) (b : Bool) → test x ≡ b →
    moved n (position test (x ∷ xs)) ≡ cond b (Some n) (moved (n + 1) (position test xs))
first_by test x xs n true e =
    let there : nat_lt 0 (suc (length xs)) ≡ true = grind (arith, nat_tests) in
    let zero : n + 0 ≡ n = omega arith in
    rw (e, there) (ap (λ (k : ℕ). Some k) zero)
first_by test x xs n false e = rw e (later (nat_lt (position_or_len test xs) (length xs)) refl)
  where
    later : (b : Bool) → nat_lt (position_or_len test xs) (length xs) ≡ b →
        moved n (cond (nat_lt (1 + position_or_len test xs) (suc (length xs))) (Some (1 + position_or_len test xs)) None) ≡ moved (n + 1) (position test xs)
    later true less =
        let too : nat_lt (1 + position_or_len test xs) (suc (length xs)) ≡ true = grind (arith, nat_tests) in
        rw (less, too) (ap (λ (k : ℕ). Some k) (let e : n + (1 + position_or_len test xs) ≡ n + 1 + position_or_len test xs = omega arith in e))
    later false less =
        let too : nat_lt (1 + position_or_len test xs) (suc (length xs)) ≡ false = grind (arith, nat_tests) in
        rw (less, too) refl

pub position_first : {X : Type 0} (test : X → Bool) (x : X) (xs : List X) (n : ℕ) →
    moved n (position test (x ∷ xs)) ≡ cond (test x) (Some n) (moved (n + 1) (position test xs))
position_first test x xs n = first_by test x xs n (test x) refl

pub moved_zero : (found : Option ℕ) → moved 0 found ≡ found
moved_zero None = refl
moved_zero (Some k) = ap (λ (n : ℕ). Some n) (let e : 0 + k ≡ k = omega arith in e)

-- the place at which a test passes is below the length
pub position_below : {X : Type 0} (test : X → Bool) (xs : List X) (place : ℕ) → position test xs ≡ Some place → place < length xs
position_below test xs place e = by (nat_lt (position_or_len test xs) (length xs)) refl e
  where
    by : (b : Bool) → nat_lt (position_or_len test xs) (length xs) ≡ b → cond b (Some (position_or_len test xs)) None ≡ Some place → place < length xs
    by true less is = grind (arith, nat_tests)
    by false more is = absurd (cc)

beyond : {X : Type 0} (xs : List X) (n : ℕ) → nat_lt n (length xs) ≡ false → slice_get xs n ≡ None
beyond [] n more = refl
beyond (x ∷ xs) zero more = absurd (let there : nat_lt 0 (suc (length xs)) ≡ true = grind (arith, nat_tests) in true≢false (sym there ∙ more))
beyond (x ∷ xs) (suc n) more = beyond xs n (grind (arith, nat_tests))

-- the item at the first place that passes is the first that passes
pub item_at_position : {X : Type 0} (test : X → Bool) (xs : List X) → option_and_then (slice_get xs) (position test xs) ≡ find test xs
item_at_position test xs = by (nat_lt (position_or_len test xs) (length xs)) refl
  where
    by : (b : Bool) → nat_lt (position_or_len test xs) (length xs) ≡ b →
        option_and_then (slice_get xs) (cond b (Some (position_or_len test xs)) None) ≡ find test xs
    by true less = sym (find_at test xs)
    by false more = sym (find_at test xs ∙ beyond xs (position_or_len test xs) more)

-- ---- equal names

-- the first item of a name, whichever of the two names stands first in the test
pub find_turned : {X : Type 0} (name_of : X → List ℕ) (name : List ℕ) (xs : List X) →
    find (λ x. bytes_eq name (name_of x)) xs ≡ find (λ x. bytes_eq (name_of x) name) xs
find_turned name_of name [] = refl
find_turned {X} name_of name (x ∷ xs) =
    ap (λ (b : Bool). cond b (Some x) (find (λ (y : X). bytes_eq name (name_of y)) xs)) (bytes_eq-sym name (name_of x))
    ∙ ap (cond (bytes_eq (name_of x) name) (Some x)) (find_turned name_of name xs)

-- ---- names are texts

-- the bytes of a key that is found are a text
pub text_found : {X Y : Type 0} (word : List ℕ) (entries : List (String Y × X)) → IsSome (lookup (λ k. bytes_eq word (string_bytes k)) entries) →
    ∥ IsUtf8 word ∥₁
text_found word [] some = absurd (true≢false (sym some))
text_found {X} {Y} word (entry ∷ entries) some = by (bytes_eq word (string_bytes entry.0)) refl (text_found word entries) some
  where
    by : (b : Bool) → bytes_eq word (string_bytes entry.0) ≡ b →
        (IsSome (lookup (λ (k : String Y). bytes_eq word (string_bytes k)) entries) → ∥ IsUtf8 word ∥₁) →
        IsSome (cond b (Some entry.1) (lookup (λ (k : String Y). bytes_eq word (string_bytes k)) entries)) → ∥ IsUtf8 word ∥₁
    by true same rest found = subst (λ (bs : List ℕ). ∥ IsUtf8 bs ∥₁) (sym ((bytes_eq-Decides word (string_bytes entry.0)).0 same)) entry.0.ok
    by false other rest found = rest found

-- a word that is no text has no place
pub no_place : (places : NamePlaces) (word : List ℕ) → (IsUtf8 word → ⊥) → place_in places word ≡ None
no_place places word none = by (place_in places word) refl
  where
    by : (found : Option ℕ) → place_in places word ≡ found → found ≡ None
    by None is = refl
    by (Some place) is = absurd (∥∥₁_elim (text_found word places.places.entries (subst IsSome (sym is) refl)) (hlevel props) none)

-- ---- places of names

-- every place of a name is a place of the items
pub are_below : {X : Type 0} (name_of : X → List ℕ) (places : NamePlaces) (items : List X) → ArePlacesOf name_of places items → AreBelow places (length items)
are_below {X} name_of places items are name place is = position_below (λ (x : X). bytes_eq name (name_of x)) items place (sym (are.each name) ∙ is)

-- the item at the place of a name is the first that has it
pub item_found : {X : Type 0} (name_of : X → List ℕ) (places : NamePlaces) (items : List X) → ArePlacesOf name_of places items →
    (name : List ℕ) (place : Option ℕ) → place ≡ place_in places name
    → option_and_then (slice_get items) place ≡ find (λ x. bytes_eq (name_of x) name) items
item_found {X} name_of places items are name place is =
    ap (option_and_then (slice_get items)) (is ∙ are.each name)
    ∙ item_at_position (λ (x : X). bytes_eq name (name_of x)) items
    ∙ find_turned name_of name items

-- the place of a name, with the names turned
pub place_found : {X : Type 0} (name_of : X → List ℕ) (places : NamePlaces) (items : List X) → ArePlacesOf name_of places items → (name : List ℕ) →
    place_in places name ≡ position (λ x. bytes_eq (name_of x) name) items
place_found {X} name_of places items are name =
    are.each name ∙ position_same (λ (x : X). bytes_eq name (name_of x)) (λ (x : X). bytes_eq (name_of x) name) (λ x. bytes_eq-sym name (name_of x)) items
