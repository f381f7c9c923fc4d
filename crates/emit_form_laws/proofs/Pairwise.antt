-- Lists each item of which is related to all later ones. Public: the crates above that speak of the network of
-- the groups use these lemmas too.
use Rattle.std.proofs.Common.{◌≡◌, ◌≢◌, ℕ, zero, suc, ◌+◌, ◌<◌, ◌≤◌, Bool, true, false, cond, ◌||◌, List, [], ◌∷◌, ◌++◌, map, filter, ◌⊎◌, inl, inr, Option, Some, None, refl, sym, ◌∙◌, ap, subst, arith}
use Rattle.std.specs.Prelude.{filter_map, flat_map, slice_get}
use Rattle.std.proofs.lemmas.Bool.{cases_lt}
use Rattle.std.specs.List.{AllByRecursion, IsDistinct, list_any, enumerate_from, range_with_len, cons_option}
use Rattle.std.proofs.lemmas.List.Concat.{flat_map-cons}
use Rattle.base_kit.proofs.Elements.{In, map_in, filter_in, filter_map_in, flat_map_in, append_in, in_right, in_flat_map, enumerate_in, get_in}
use Rattle.cfg_ast.specs.meaning.RouterFaults.{repeats, repeats_after}

-- ---- what holds of each item

pub all_from : {X : Type 0} (P : X → Type 0) (xs : List X) → ((x : X) → In xs x → P x) → AllByRecursion P xs
all_from P [] each = tt
all_from P (x ∷ xs) each = (each x (inl refl), all_from P xs (λ y h. each y (inr h)))

pub all_in : {X : Type 0} (P : X → Type 0) (xs : List X) (x : X) → AllByRecursion P xs → In xs x → P x
all_in P [] x all h = absurd h
all_in P (y ∷ ys) x all (inl same) = subst P same all.0
all_in P (y ∷ ys) x all (inr h) = all_in P ys x all.1 h

-- ---- what holds of each two

abbrev pub IsPairwise : {X : Type 0} → (X → X → Type 0) → List X → Type 0
IsPairwise R [] = Unit {0}
IsPairwise {X} R (x ∷ xs) = ((y : X) → In xs y → R x y) × IsPairwise R xs

pub weaker : {X : Type 0} (R Q : X → X → Type 0) (xs : List X) → ((x y : X) → In xs x → In xs y → R x y → Q x y) → IsPairwise R xs → IsPairwise Q xs
weaker R Q [] less all = tt
weaker R Q (x ∷ xs) less all = (λ y h. less x y (inl refl) (inr h) (all.0 y h), weaker R Q xs (λ y z h k. less y z (inr h) (inr k)) all.1)

pub pairs_map : {X Y : Type 0} (f : X → Y) (R : Y → Y → Type 0) (xs : List X) → IsPairwise (λ (x y : X). R (f x) (f y)) xs → IsPairwise R (map f xs)
pairs_map f R [] all = tt
pairs_map f R (x ∷ xs) all = (λ y h. (let m = map_in f xs y h in subst (R (f x)) m.2 (all.0 m.0 m.1)), pairs_map f R xs all.1)

pub map_pairs : {X Y : Type 0} (f : X → Y) (R : Y → Y → Type 0) (xs : List X) → IsPairwise R (map f xs) → IsPairwise (λ (x y : X). R (f x) (f y)) xs
map_pairs f R [] all = tt
map_pairs {X} f R (x ∷ xs) all = (λ y h. all.0 (f y) (mapped xs y h), map_pairs f R xs all.1)
  where
    mapped : (ys : List X) (y : X) → In ys y → In (map f ys) (f y)
    mapped [] y h = absurd h
    mapped (z ∷ zs) y (inl same) = inl (ap f same)
    mapped (z ∷ zs) y (inr h) = inr (mapped zs y h)

pub pairs_filter : {X : Type 0} (p : X → Bool) (R : X → X → Type 0) (xs : List X) → IsPairwise R xs → IsPairwise R (filter p xs)
pairs_filter p R [] all = tt
pairs_filter p R (x ∷ xs) all = step (p x) (pairs_filter p R xs all.1)
  where
    step : (b : Bool) → IsPairwise R (filter p xs) → IsPairwise R (cond b (x ∷ filter p xs) (filter p xs))
    step true rest = (λ y h. all.0 y (filter_in p xs y h).0, rest)
    step false rest = rest

pub pairs_filter_map : {X Y : Type 0} (f : X → Option Y) (Q : X → X → Type 0) (R : Y → Y → Type 0) (xs : List X) →
    ((x y : X) (a b : Y) → In xs x → In xs y → Q x y → f x ≡ Some a → f y ≡ Some b → R a b) → IsPairwise Q xs → IsPairwise R (filter_map f xs)
pairs_filter_map f Q R [] given all = tt
pairs_filter_map {X} {Y} f Q R (x ∷ xs) given all = step (f x) refl (pairs_filter_map f Q R xs (λ y z a b h k. given y z a b (inr h) (inr k)) all.1)
  where
    step : (o : Option Y) → f x ≡ o → IsPairwise R (filter_map f xs) → IsPairwise R (cons_option o (filter_map f xs))
    step None is rest = rest
    step (Some a) is rest = (λ b h. (let m = filter_map_in f xs b h in given x m.0 a b (inl refl) (inr m.1) (all.0 m.0 m.1) is m.2), rest)

pub pairs_append : {X : Type 0} (R : X → X → Type 0) (xs ys : List X) → IsPairwise R xs → IsPairwise R ys → ((x y : X) → In xs x → In ys y → R x y) →
    IsPairwise R (xs ++ ys)
pairs_append R [] ys first second across = second
pairs_append R (x ∷ xs) ys first second across = (
  λ y h. elim (append_in xs ys y h) [ inl k ↦ first.0 y k | inr k ↦ across x y (inl refl) k ],
  pairs_append R xs ys first.1 second (λ y z h k. across y z (inr h) k),
)

pub pairs_flat : {X Y : Type 0} (f : X → List Y) (Q : X → X → Type 0) (R : Y → Y → Type 0) (xs : List X) → ((x : X) → In xs x → IsPairwise R (f x)) →
    ((x y : X) (a b : Y) → In xs x → In xs y → Q x y → In (f x) a → In (f y) b → R a b) → IsPairwise Q xs → IsPairwise R (flat_map f xs)
pairs_flat f Q R [] each across all = tt
pairs_flat f Q R (x ∷ xs) each across all =
    subst (IsPairwise R) (sym (flat_map-cons f x xs))
    (pairs_append R (f x) (flat_map f xs) (each x (inl refl))
    (pairs_flat f Q R xs (λ y h. each y (inr h)) (λ y z a b h k. across y z a b (inr h) (inr k)) all.1)
    (λ a b h k. let m = flat_map_in f xs b k in across x m.0 a b (inl refl) (inr m.1) (all.0 m.0 m.1) h m.2))

-- ---- numbers ascend

abbrev pub IsEarlier : {X : Type 0} → ℕ × X → ℕ × X → Type 0
IsEarlier p q = p.0 < q.0

pub numbered_pairs : {X : Type 0} (n : ℕ) (xs : List X) → IsPairwise IsEarlier (enumerate_from n xs)
numbered_pairs n [] = tt
numbered_pairs n (x ∷ xs) = (λ (k, y) h. (let at = enumerate_in xs (n + 1) k y h in let e = at.1 in omega arith), numbered_pairs (n + 1) xs)

-- what holds of each two items holds of them with their numbers
pub numbered_items : {X : Type 0} (n : ℕ) (R : X → X → Type 0) (xs : List X) → IsPairwise R xs → IsPairwise (λ (p q : ℕ × X). R p.1 q.1) (enumerate_from n xs)
numbered_items n R [] all = tt
numbered_items n R (x ∷ xs) all = (λ (k, y) h. (let at = enumerate_in xs (n + 1) k y h in all.0 y (get_in xs at.0 y at.2)), numbered_items (n + 1) R xs all.1)

from_first : (a n m : ℕ) → In (range_with_len a n) m → a ≤ m
from_first a zero m h = absurd h
from_first a (suc n) m (inl same) = omega (arith, same)
from_first a (suc n) m (inr h) = omega (arith, from_first (a + 1) n m h)

pub range_pairs : (a n : ℕ) → IsPairwise (λ (x y : ℕ). x < y) (range_with_len a n)
range_pairs a zero = tt
range_pairs a (suc n) = (λ y h. omega (arith, from_first (a + 1) n y h), range_pairs (a + 1) n)

-- ---- tests that tell two items apart

pub distinct_from : {X : Type 0} (same : X → X → Bool) (xs : List X) → IsPairwise (λ (x y : X). same x y ≡ false) xs → IsDistinct same xs
unfolding IsDistinct
distinct_from same [] all = tt
distinct_from {X} same (x ∷ xs) all = (all_from (λ (y : X). same x y ≡ false) xs all.0, distinct_from same xs all.1)

pub pairs_distinct : {X : Type 0} (same : X → X → Bool) (xs : List X) → IsDistinct same xs → IsPairwise (λ (x y : X). same x y ≡ false) xs
unfolding IsDistinct
pairs_distinct same [] all = tt
pairs_distinct {X} same (x ∷ xs) all = (λ y h. all_in (λ (z : X). same x z ≡ false) xs y all.0 h, pairs_distinct same xs all.1)

pub none_like : {X : Type 0} (p : X → Bool) (xs : List X) → ((x : X) → In xs x → p x ≡ false) → list_any p xs ≡ false
none_like p [] none = refl
none_like p (x ∷ xs) none = rw (none x (inl refl), none_like p xs (λ y h. none y (inr h))) refl

fresh_after : {X : Type 0} (alike : X → X → Bool) (past xs : List X) → ((x y : X) → In past x → In xs y → alike y x ≡ false) →
    IsPairwise (λ (x y : X). alike y x ≡ false) xs → repeats_after alike past xs ≡ []
fresh_after alike past [] apart all = refl
fresh_after {X} alike past (x ∷ xs) apart all =
    rw (none_like (alike x) past (λ y h. apart y x h (inl refl)))
    (fresh_after alike (x ∷ past) xs next all.1)
  where
    next : (z y : X) → In (x ∷ past) z → In xs y → alike y z ≡ false
    next z y (inl same) k = ap (alike y) (sym same) ∙ all.0 y k
    next z y (inr h) k = apart z y h (inr k)

-- no item is like an earlier one
pub no_repeats : {X : Type 0} (alike : X → X → Bool) (xs : List X) → IsPairwise (λ (x y : X). alike y x ≡ false) xs → repeats alike xs ≡ []
no_repeats alike xs all = fresh_after alike [] xs (λ x y h k. absurd h) all

or_false : (a b : Bool) → (a || b) ≡ false → (a ≡ false) × (b ≡ false)
or_false true b e = cc
or_false false b e = (refl, e)

any_false : {X : Type 0} (p : X → Bool) (xs : List X) (x : X) → list_any p xs ≡ false → In xs x → p x ≡ false
any_false p [] x e h = absurd h
any_false p (y ∷ ys) x e (inl same) = sym (ap p same) ∙ (or_false (p y) (list_any p ys) e).0
any_false p (y ∷ ys) x e (inr h) = any_false p ys x (or_false (p y) (list_any p ys) e).1 h

fresh : {X : Type 0} (b : Bool) (x : X) (rest : List X) → cond b (x ∷ rest) rest ≡ [] → (b ≡ false) × (rest ≡ [])
fresh true x rest e = cc
fresh false x rest e = (refl, e)

unlike_past : {X : Type 0} (alike : X → X → Bool) (past xs : List X) (x y : X) → repeats_after alike past xs ≡ [] → In past x → In xs y → alike y x ≡ false
unlike_past alike past [] x y e h k = absurd k
unlike_past alike past (z ∷ zs) x y e h (inl same) = ap (λ w. alike w x) (sym same)
    ∙ any_false (alike z) past x (fresh (list_any (alike z) past) z (repeats_after alike (z ∷ past) zs) e).0 h
unlike_past alike past (z ∷ zs) x y e h (inr k) =
    unlike_past alike (z ∷ past) zs x y (fresh (list_any (alike z) past) z (repeats_after alike (z ∷ past) zs) e).1 (inr h) k

repeats_pairs : {X : Type 0} (alike : X → X → Bool) (past xs : List X) → repeats_after alike past xs ≡ [] → IsPairwise (λ (x y : X). alike y x ≡ false) xs
repeats_pairs alike past [] e = tt
repeats_pairs alike past (x ∷ xs) e =
    let rest = (fresh (list_any (alike x) past) x (repeats_after alike (x ∷ past) xs) e).1 in
    (λ y h. unlike_past alike (x ∷ past) xs x y rest (inl refl) h, repeats_pairs alike (x ∷ past) xs rest)

-- where no item is like an earlier one
pub pairs_repeats : {X : Type 0} (alike : X → X → Bool) (xs : List X) → repeats alike xs ≡ [] → IsPairwise (λ (x y : X). alike y x ≡ false) xs
pairs_repeats alike xs e = repeats_pairs alike [] xs e

-- two items of a list are one, or related in one order or the other
pub pick : {X : Type 0} (R : X → X → Type 0) (xs : List X) (x y : X) → IsPairwise R xs → In xs x → In xs y → (x ≡ y) ⊎ (R x y ⊎ R y x)
pick R [] x y all h k = absurd h
pick R (z ∷ zs) x y all (inl a) (inl b) = inl (sym a ∙ b)
pick R (z ∷ zs) x y all (inl a) (inr k) = inr (inl (let P : _ → Type 0 = λ w. R w y in subst P a (all.0 y k)))
pick R (z ∷ zs) x y all (inr h) (inl b) = inr (inr (let P : _ → Type 0 = λ w. R w x in subst P b (all.0 x h)))
pick R (z ∷ zs) x y all (inr h) (inr k) = pick R zs x y all.1 h k

-- ---- by places, and in lists of lists

pub pairs_at : {X : Type 0} (R : X → X → Type 0) (xs : List X) (i j : ℕ) (x y : X) → IsPairwise R xs → i < j → slice_get xs i ≡ Some x →
    slice_get xs j ≡ Some y → R x y
pairs_at R [] i j x y all less at to = absurd cc
pairs_at R (z ∷ zs) zero zero x y all less at to = absurd (omega arith)
pairs_at R (z ∷ zs) zero (suc j) x y all less at to = let same : z ≡ x = cc in let P : _ → Type 0 = λ w. R w y in subst P same (all.0 y (get_in zs j y to))
pairs_at R (z ∷ zs) (suc i) zero x y all less at to = absurd (omega arith)
pairs_at R (z ∷ zs) (suc i) (suc j) x y all less at to = pairs_at R zs i j x y all.1 (omega arith) at to

-- items at different places are related in one order or the other
pub pairs_either : {X : Type 0} (R : X → X → Type 0) (xs : List X) (i j : ℕ) (x y : X) → IsPairwise R xs → i ≢ j → slice_get xs i ≡ Some x →
    slice_get xs j ≡ Some y → R x y ⊎ R y x
pairs_either R xs i j x y all other at to = elim (cases_lt i j) [
  | inl less ↦ inl (pairs_at R xs i j x y all less at to)
  | inr le ↦ inr (pairs_at R xs j i y x all (later i j other le) to at)
]
  where
    later : (m n : ℕ) → m ≢ n → n ≤ m → n < m
    later m n other le = omega arith

append_parts : {X : Type 0} (R : X → X → Type 0) (xs ys : List X) → IsPairwise R (xs ++ ys) → IsPairwise R ys × ((x y : X) → In xs x → In ys y → R x y)
append_parts R [] ys all = (all, λ x y h k. absurd h)
append_parts {X} R (x ∷ xs) ys all =
    let rest = append_parts R xs ys all.1 in
    (rest.0, across rest.1)
  where
    across : ((a b : X) → In xs a → In ys b → R a b) → (a b : X) → (x ≡ a) ⊎ In xs a → In ys b → R a b
    across rest a b (inl same) k = (let P : X → Type 0 = λ w. R w b in subst P same (all.0 b (in_right xs ys b k)))
    across rest a b (inr h) k = rest a b h k

-- items of different lists among those of all lists
pub flat_pairs : {X Y : Type 0} (f : X → List Y) (R : Y → Y → Type 0) (xs : List X) → IsPairwise R (flat_map f xs) →
    IsPairwise (λ (x y : X). (a b : Y) → In (f x) a → In (f y) b → R a b) xs
flat_pairs f R [] all = tt
flat_pairs f R (x ∷ xs) all =
    let parts = append_parts R (f x) (flat_map f xs) (subst (IsPairwise R) (flat_map-cons f x xs) all) in
    (λ y h a b i k. parts.1 a b i (in_flat_map f xs y b h k), flat_pairs f R xs parts.0)

-- ---- lists without items

pub flat_none : {X Y : Type 0} (f : X → List Y) (xs : List X) → ((x : X) → In xs x → f x ≡ []) → flat_map f xs ≡ []
flat_none f [] none = refl
flat_none f (x ∷ xs) none = flat_map-cons f x xs ∙ rw (none x (inl refl), flat_none f xs (λ y h. none y (inr h))) refl

pub filter_none : {X : Type 0} (p : X → Bool) (xs : List X) → ((x : X) → In xs x → p x ≡ false) → filter p xs ≡ []
filter_none p [] none = refl
filter_none p (x ∷ xs) none = rw (none x (inl refl), filter_none p xs (λ y h. none y (inr h))) refl

pub filter_map_none : {X Y : Type 0} (f : X → Option Y) (xs : List X) → ((x : X) → In xs x → f x ≡ None) → filter_map f xs ≡ []
filter_map_none f [] none = refl
filter_map_none f (x ∷ xs) none = rw (none x (inl refl), filter_map_none f xs (λ y h. none y (inr h))) refl
