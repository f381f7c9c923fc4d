-- Items by their place in all that some items have.
use Rattle.std.proofs.Common.{◌≡◌, ◌<◌, ◌≤◌, ℕ, zero, suc, ◌+◌, ◌-◌, List, [], ◌∷◌, ◌++◌, flat_map, length, get_or, drop, refl, sym, ap, ◌∙◌, arith}
use Rattle.std.specs.Prelude.{slice_get}
use Rattle.std.proofs.lemmas.List.{drop_more}

get_front : {Y : Type 0} (ys zs : List Y) (k : ℕ) → k < length ys → slice_get (ys ++ zs) k ≡ slice_get ys k
get_front [] zs k below = absurd (omega arith)
get_front (y ∷ ys) zs zero below = refl
get_front (y ∷ ys) zs (suc k) below = get_front ys zs k (omega arith)

get_rest : {Y : Type 0} (ys zs : List Y) (k : ℕ) → length ys ≤ k → slice_get (ys ++ zs) k ≡ slice_get zs (k - length ys)
get_rest [] zs k past = ap (slice_get zs) (let e : k ≡ k - 0 = omega arith in e)
get_rest (y ∷ ys) zs zero past = absurd (omega arith)
get_rest (y ∷ ys) zs (suc k) past = get_rest ys zs k (omega arith) ∙ ap (slice_get zs) (let e : k - length ys ≡ suc k - suc (length ys) = omega arith in e)

dropped : {X : Type 0} (xs : List X) (i : ℕ) (x : X) → i < length xs → x ≡ get_or xs i x → drop i xs ≡ x ∷ drop (i + 1) xs
dropped {X} xs i x below here = drop_more xs i x below ∙ ap (λ (y : X). y ∷ drop (i + 1) xs) (sym here)

pub get_within : {X Y : Type 0} (f : X → List Y) (xs : List X) (i : ℕ) (x : X) (k : ℕ) → i < length xs → x ≡ get_or xs i x → k < length (f x) →
    slice_get (flat_map f (drop i xs)) k ≡ slice_get (f x) k
get_within {X} f xs i x k below here within = ap (λ (l : List X). slice_get (flat_map f l) k) (dropped xs i x below here)
    ∙ get_front (f x) (flat_map f (drop (i + 1) xs)) k within

pub get_behind : {X Y : Type 0} (f : X → List Y) (xs : List X) (i : ℕ) (x : X) (k : ℕ) → i < length xs → x ≡ get_or xs i x → length (f x) ≤ k →
    slice_get (flat_map f (drop i xs)) k ≡ slice_get (flat_map f (drop (i + 1) xs)) (k - length (f x))
get_behind {X} f xs i x k below here past = ap (λ (l : List X). slice_get (flat_map f l) k) (dropped xs i x below here)
    ∙ get_rest (f x) (flat_map f (drop (i + 1) xs)) k past
