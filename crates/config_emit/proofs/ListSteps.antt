-- Lists: maps that agree, maps of what passes a test, and one item more.
use Rattle.std.proofs.Common.{◌≡◌, drop, drop-cons, get_or, length, ℕ, suc, ◌+◌, ◌-◌, ◌<◌, append_assoc, Bool, true, false, cond, ◌&&◌, nat_eq, List, [], ◌∷◌, ◌++◌, map, filter, Some, refl, sym, ◌∙◌, ap, arith}
use Rattle.std.specs.Prelude.{find}
use Rattle.std.specs.List.{enumerate_from, range_with_len}
use Rattle.std.proofs.lemmas.Bool.Decides.{nat_tests}

pub map_ext : {X Y : Type 0} (f g : X → Y) (xs : List X) → ((x : X) → f x ≡ g x) → map f xs ≡ map g xs
map_ext f g [] same = refl
map_ext f g (x ∷ xs) same = ap (λ y. y ∷ map f xs) (same x) ∙ ap (λ ys. g x ∷ ys) (map_ext f g xs same)

pub filter_mapped : {X Y : Type 0} (p : Y → Bool) (f : X → Y) (xs : List X) → filter p (map f xs) ≡ map f (filter (λ x. p (f x)) xs)
filter_mapped p f [] = refl
filter_mapped {X} {Y} p f (x ∷ xs) = step (p (f x)) (filter_mapped p f xs) where
  step : (b : Bool) → filter p (map f xs) ≡ map f (filter (λ z. p (f z)) xs) →
      cond b (f x ∷ filter p (map f xs)) (filter p (map f xs)) ≡ map f (cond b (x ∷ filter (λ z. p (f z)) xs) (filter (λ z. p (f z)) xs))
  step true e = ap (λ ys. f x ∷ ys) e
  step false e = e

-- numbered items that pass a test
pub numbered_agree : {X Y : Type 0} (f g : ℕ × X → Y) (p : X → Bool) (n : ℕ) (xs : List X) → ((k : ℕ) (x : X) → p x ≡ true → f (k, x) ≡ g (k, x)) →
    map f (enumerate_from n (filter p xs)) ≡ map g (enumerate_from n (filter p xs))
numbered_agree f g p n [] same = refl
numbered_agree {X} {Y} f g p n (x ∷ xs) same = step (λ m. numbered_agree f g p m xs same) (p x) refl where
  step : ((m : ℕ) → map f (enumerate_from m (filter p xs)) ≡ map g (enumerate_from m (filter p xs))) → (b : Bool) → p x ≡ b →
      map f (enumerate_from n (cond b (x ∷ filter p xs) (filter p xs))) ≡ map g (enumerate_from n (cond b (x ∷ filter p xs) (filter p xs)))
  step later true e = ap (λ y. y ∷ map f (enumerate_from (n + 1) (filter p xs))) (same n x e) ∙ ap (λ ys. g (n, x) ∷ ys) (later (n + 1))
  step later false e = later n

pub numbered_mapped : {X Y Z : Type 0} (f : ℕ × Y → Z) (h : X → Y) (n : ℕ) (xs : List X) →
    map f (enumerate_from n (map h xs)) ≡ map (λ (k : ℕ × X). f (k.0, h k.1)) (enumerate_from n xs)
numbered_mapped f h n [] = refl
numbered_mapped f h n (x ∷ xs) = ap (λ ys. f (n, h x) ∷ ys) (numbered_mapped f h (n + 1) xs)

pub no_more : {X : Type 0} (xs : List X) → xs ++ [] ≡ xs
no_more [] = refl
no_more (x ∷ xs) = ap (λ ys. x ∷ ys) (no_more xs)

pub cond_last : {X : Type 0} (b : Bool) (xs : List X) (x : X) → cond b (xs ++ x ∷ []) xs ≡ xs ++ cond b (x ∷ []) []
cond_last true xs x = refl
cond_last false xs x = sym (no_more xs)

pub found_passes : {X : Type 0} (p : X → Bool) (xs : List X) (x : X) → find p xs ≡ Some x → p x ≡ true
found_passes p [] x e = cc
found_passes {X} p (y ∷ ys) x e = step (found_passes p ys x) (p y) refl e where
  step : (find p ys ≡ Some x → p x ≡ true) → (b : Bool) → p y ≡ b → cond b (Some y) (find p ys) ≡ Some x → p x ≡ true
  step later true at here = (let same : y ≡ x = cc in ap p (sym same) ∙ at)
  step later false at here = later here

pub filter_ext : {X : Type 0} (p q : X → Bool) (xs : List X) → ((x : X) → p x ≡ q x) → filter p xs ≡ filter q xs
filter_ext p q [] same = refl
filter_ext p q (x ∷ xs) same = ap (λ b. cond b (x ∷ filter p xs) (filter p xs)) (same x) ∙ ap (λ ys. cond (q x) (x ∷ ys) ys) (filter_ext p q xs same)

-- ---- pairs of numbers

pub same_numbers : (m n : ℕ) → nat_eq m n ≡ true → m ≡ n
same_numbers m n e = grind (arith, nat_tests)

pub same_either_way : (m n : ℕ) → nat_eq m n ≡ nat_eq n m
same_either_way m n = grind (arith, nat_tests)

pub both : (a b : Bool) → (a && b) ≡ true → (a ≡ true) × (b ≡ true)
both true true e = (refl, refl)
both true false e = cc
both false b e = cc

-- ---- one number more

pub range_turn : (g n : ℕ) → g < n → range_with_len g (n - g) ≡ g ∷ range_with_len (g + 1) (n - (g + 1))
range_turn g n below = ap (range_with_len g) (let more : n - g ≡ suc (n - (g + 1)) = omega arith in more)

pub pushed_turn : {Y : Type 0} (f : ℕ → Y) (found new : List Y) (g n : ℕ) → g < n → new ≡ found ++ f g ∷ [] →
    new ++ map f (range_with_len (g + 1) (n - (g + 1))) ≡ found ++ map f (range_with_len g (n - g))
pushed_turn f found new g n below is =
    ap (λ ys. ys ++ map f (range_with_len (g + 1) (n - (g + 1)))) is
    ∙ append_assoc found (f g ∷ []) (map f (range_with_len (g + 1) (n - (g + 1))))
    ∙ ap (λ ks. found ++ map f ks) (sym (range_turn g n below))

pub drop_turn : {X : Type 0} (xs : List X) (i : ℕ) (d : X) → i < length xs → drop i xs ≡ get_or xs i d ∷ drop (i + 1) xs
drop_turn xs i d below = drop-cons xs i d below ∙ ap (λ k. get_or xs i d ∷ drop k xs) (let same : suc i ≡ i + 1 = omega arith in same)
