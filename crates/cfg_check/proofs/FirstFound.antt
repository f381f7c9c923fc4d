-- The first of all that some items have.
use Rattle.std.proofs.Common.{◌≡◌, ◌<◌, ℕ, zero, suc, true, List, [], ◌∷◌, ◌++◌, flat_map, length, get_or, take, drop, Option, refl, sym, ap, ◌∙◌, arith}
use Rattle.std.specs.Option.{option_map, is_some}
use Rattle.std.specs.Prelude.{slice_get}
use Rattle.std.proofs.lemmas.Grind.{flat_map-append}

-- the item at a place, with what stands before and behind it
pub cut_at : {X : Type 0} (xs : List X) (i : ℕ) (x : X) → i < length xs → x ≡ get_or xs i x → xs ≡ take i xs ++ x ∷ drop (suc i) xs
cut_at [] i x below here = absurd (omega arith)
cut_at (y ∷ xs) zero x below here = ap (λ z. z ∷ xs) (sym here)
cut_at (y ∷ xs) (suc i) x below here = ap (λ zs. y ∷ zs) (cut_at xs i x (omega arith) here)

first_of_two : {Y Z : Type 0} (g : Y → Z) (ys zs : List Y) → is_some (option_map g (slice_get ys 0)) ≡ true →
    option_map g (slice_get (ys ++ zs) 0) ≡ option_map g (slice_get ys 0)
first_of_two g [] zs some = cc
first_of_two g (y ∷ ys) zs some = refl

pub first_found : {X Y Z : Type 0} (g : Y → Z) (f : X → List Y) (xs : List X) (i : ℕ) (x : X) → i < length xs → x ≡ get_or xs i x →
    flat_map f (take i xs) ≡ [] → is_some (option_map g (slice_get (f x) 0)) ≡ true
    → option_map g (slice_get (flat_map f xs) 0) ≡ option_map g (slice_get (f x) 0)
first_found {X} {Y} {Z} g f xs i x below here before some =
    let first : List Y → Option Z = λ ys. option_map g (slice_get ys 0) in
    ap (λ (l : List X). first (flat_map f l)) (cut_at xs i x below here)
    ∙ ap first (flat_map-append f (take i xs) (x ∷ drop (suc i) xs))
    ∙ ap (λ ys. first (ys ++ flat_map f (x ∷ drop (suc i) xs))) before
    ∙ first_of_two g (f x) (flat_map f (drop (suc i) xs)) some
