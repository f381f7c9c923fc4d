-- Names that are apart.
use Rattle.std.proofs.Common.{◌≡◌, ℕ, zero, suc, ◌<◌, Bool, true, false, ◌&&◌, ◌||◌, List, [], ◌∷◌, ◌++◌, length, map, get_or, Some, None, refl, sym, ap, ◌∙◌, arith, true≢false}
use Rattle.std.specs.Prelude.{is_some, bytes_eq}
use Rattle.std.specs.List.{list_any, position}
use Rattle.std.proofs.lemmas.List.Folds.{list_any-append}
use Rattle.std.proofs.lemmas.List.Quantifiers.{position-Some}
use Rattle.base_kit.specs.Names.{AreApart}
use Rattle.numbered_names.proofs.Firsts.{any_same, any_some, bytes_eq-sym, bytes_same, position_map}

or_false : (b c : Bool) → (b || c) ≡ false → (b ≡ false) × (c ≡ false)
or_false true c e = absurd (true≢false e)
or_false false c e = (refl, e)

pub apart_last : (names : List (List ℕ)) (n : List ℕ) → list_any (λ y. bytes_eq y n) names ≡ false → AreApart names → AreApart (names ++ n ∷ [])
apart_last [] n none apart = (refl, tt)
apart_last (x ∷ xs) n none apart =
    let both = or_false (bytes_eq x n) (list_any (λ y. bytes_eq y n) xs) none in
    (list_any-append (bytes_eq x) xs (n ∷ []) ∙ rw (apart.0, both.0) refl, apart_last xs n both.1 apart.1)

pub none_named : {X : Type 0} (name : X → List ℕ) (xs : List X) (n : List ℕ) → position (λ x. bytes_eq (name x) n) xs ≡ None →
    list_any (λ y. bytes_eq y n) (map name xs) ≡ false
none_named name xs n none = any_some (λ y. bytes_eq y n) (map name xs) ∙ ap is_some (position_map (λ y. bytes_eq y n) name xs ∙ none)

-- of items of different names one has the name, where one has it
none_with : {X : Type 0} (test has : X → Bool) (xs : List X) → list_any test xs ≡ false → list_any (λ x. test x && has x) xs ≡ false
none_with test has [] none = refl
none_with test has (x ∷ xs) none =
    let both = or_false (test x) (list_any test xs) none in
    rw (both.0, none_with test has xs both.1) refl

one_with : {X : Type 0} (name : X → List ℕ) (n : List ℕ) (has : X → Bool) (xs : List X) (i : ℕ) (d : X) → AreApart (map name xs) → i < length xs →
    bytes_eq (name (get_or xs i d)) n ≡ true → ((k : ℕ) → k < i → bytes_eq (name (get_or xs k d)) n ≡ false)
    → list_any (λ x. bytes_eq (name x) n && has x) xs ≡ has (get_or xs i d)
one_with name n has [] i d apart lt here before = absurd (omega arith)
one_with {X} name n has (x ∷ xs) zero d apart lt here before =
    let others : list_any (λ y. bytes_eq y n) (map name xs) ≡ false =
    ap (λ (m : List ℕ). list_any (λ y. bytes_eq y m) (map name xs)) (sym (bytes_same (name x) n here))
    ∙ any_same (λ y. bytes_eq y (name x)) (bytes_eq (name x)) (λ y. bytes_eq-sym y (name x)) (map name xs) ∙ apart.0 in
    let rest : list_any (λ (y : X). bytes_eq (name y) n && has y) xs ≡ false = none_with (λ (y : X). bytes_eq (name y) n) has xs (over xs ∙ others) in
    rw (here, rest) (or_none (has x))
  where
    over : (ys : List X) → list_any (λ (y : X). bytes_eq (name y) n) ys ≡ list_any (λ y. bytes_eq y n) (map name ys)
    over [] = refl
    over (y ∷ ys) = ap (λ b. bytes_eq (name y) n || b) (over ys)

    or_none : (b : Bool) → (b || false) ≡ b
    or_none true = refl
    or_none false = refl
one_with name n has (x ∷ xs) (suc i) d apart lt here before =
    rw (before zero (omega arith)) (one_with name n has xs i d apart.1 (omega arith) here (λ k l. before (suc k) (omega arith)))

pub has_with : {X : Type 0} (name : X → List ℕ) (n : List ℕ) (has : X → Bool) (xs : List X) (i : ℕ) (d : X) → AreApart (map name xs) →
    position (λ x. bytes_eq (name x) n) xs ≡ Some i → list_any (λ x. bytes_eq (name x) n && has x) xs ≡ has (get_or xs i d)
has_with name n has xs i d apart found =
    let there = position-Some (λ x. bytes_eq (name x) n) xs i d found in
    one_with name n has xs i d apart there.0 there.1 there.2

pub has_without : {X : Type 0} (name : X → List ℕ) (n : List ℕ) (has : X → Bool) (xs : List X) → position (λ x. bytes_eq (name x) n) xs ≡ None →
    list_any (λ x. bytes_eq (name x) n && has x) xs ≡ false
has_without name n has xs none = none_with (λ x. bytes_eq (name x) n) has xs (any_some (λ x. bytes_eq (name x) n) xs ∙ ap is_some none)
