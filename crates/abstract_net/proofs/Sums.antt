-- Sums over lists.
use Rattle.std.proofs.Common.{◌≡◌, ℕ, zero, suc, ◌+◌, ◌<◌, ◌≤◌, Bool, true, false, cond, List, [], ◌∷◌, ◌++◌, map, length, inl, inr, refl, sym, ap}
use Rattle.std.proofs.Common.{arith, eq-eqb}
use Rattle.std.specs.Prelude.{filter, flat_map, nat_eq, if◌then◌else◌}
use Rattle.std.specs.List.{range_with_len}
use Rattle.std.proofs.lemmas.Bool.Decides.{nat_tests}
use Rattle.std.proofs.lemmas.Bool.{cases_lt}
use Rattle.base_kit.proofs.Elements.{In}

-- ---- sums over lists
abbrev pub total : {X : Type 0} → (X → ℕ) → List X → ℕ
total f [] = 0
total f (x ∷ xs) = f x + total f xs

abbrev pub one : Bool → ℕ
one b = if b then 1 else 0

pub total_append : {X : Type 0} (f : X → ℕ) (xs ys : List X) → total f (xs ++ ys) ≡ total f xs + total f ys
total_append f [] ys = omega arith
total_append f (x ∷ xs) ys = let a = total_append f xs ys in omega arith

pub total_flat_map : {X Y : Type 0} (f : Y → ℕ) (g : X → List Y) (xs : List X) → total f (flat_map g xs) ≡ total (λ x. total f (g x)) xs
total_flat_map f g [] = refl
total_flat_map f g (x ∷ xs) = let a = total_append f (g x) (flat_map g xs) in let b = total_flat_map f g xs in omega arith

pub total_same : {X : Type 0} (f g : X → ℕ) (xs : List X) → ((x : X) → In xs x → f x ≡ g x) → total f xs ≡ total g xs
total_same f g [] h = refl
total_same f g (x ∷ xs) h = let a = h x (inl refl) in let b = total_same f g xs (λ y at. h y (inr at)) in omega arith

pub total_none : {X : Type 0} (f : X → ℕ) (xs : List X) → ((x : X) → In xs x → f x ≡ 0) → total f xs ≡ 0
total_none f [] h = refl
total_none f (x ∷ xs) h = let a = h x (inl refl) in let b = total_none f xs (λ y at. h y (inr at)) in omega arith

pub total_map : {X Y : Type 0} (f : Y → ℕ) (g : X → Y) (xs : List X) → total f (map g xs) ≡ total (λ x. f (g x)) xs
total_map f g [] = refl
total_map f g (x ∷ xs) = let a = total_map f g xs in omega arith

length_append : {X : Type 0} (xs ys : List X) → length (xs ++ ys) ≡ length xs + length ys
length_append [] ys = omega arith
length_append (x ∷ xs) ys = let a = length_append xs ys in omega arith

pub length_total : {X Y : Type 0} (g : X → List Y) (xs : List X) → length (flat_map g xs) ≡ total (λ x. length (g x)) xs
length_total g [] = refl
length_total g (x ∷ xs) = let a = length_append (g x) (flat_map g xs) in let b = length_total g xs in omega arith

filter_total_step : {X : Type 0} (p : X → Bool) (x : X) (xs : List X) (b : Bool) → length (filter p xs) ≡ total (λ x. one (p x)) xs →
    length (cond b (x ∷ filter p xs) (filter p xs)) ≡ one b + total (λ x. one (p x)) xs
filter_total_step p x xs true h = omega arith
filter_total_step p x xs false h = omega arith

pub filter_total : {X : Type 0} (p : X → Bool) (xs : List X) → length (filter p xs) ≡ total (λ x. one (p x)) xs
filter_total p [] = refl
filter_total p (x ∷ xs) = filter_total_step p x xs (p x) (filter_total p xs)

pub length_mapped : {X Y : Type 0} (f : X → Y) (xs : List X) → length (map f xs) ≡ length xs
length_mapped f [] = refl
length_mapped f (x ∷ xs) = ap suc (length_mapped f xs)

total_zero : {X : Type 0} (xs : List X) → total (λ _. 0) xs ≡ 0
total_zero [] = refl
total_zero (x ∷ xs) = let a = total_zero xs in omega arith

total_plus : {X : Type 0} (f g : X → ℕ) (xs : List X) → total (λ x. f x + g x) xs ≡ total f xs + total g xs
total_plus f g [] = refl
total_plus f g (x ∷ xs) = let a = total_plus f g xs in omega arith

pub total_swap : {X Y : Type 0} (f : X → Y → ℕ) (xs : List X) (ys : List Y) → total (λ x. total (f x) ys) xs ≡ total (λ y. total (λ x. f x y) xs) ys
total_swap f [] ys = sym (total_zero ys)
total_swap f (x ∷ xs) ys = let a = total_swap f xs ys in let b = total_plus (f x) (λ y. total (λ z. f z y) xs) ys in omega arith

total_one : {X : Type 0} (f : X → ℕ) (xs : List X) → ((x : X) → In xs x → f x ≡ 1) → total f xs ≡ length xs
total_one f [] h = refl
total_one f (x ∷ xs) h = let a = h x (inl refl) in let b = total_one f xs (λ y at. h y (inr at)) in omega arith

-- one number of a range
pub outside_range : (a n v : ℕ) → v < a → total (λ h. one (nat_eq v h)) (range_with_len a n) ≡ 0
outside_range a zero v h = refl
outside_range a (suc n) v h = let x = outside_range (a + 1) n v (omega arith) in let y : one (nat_eq v a) ≡ 0 = grind (arith, nat_tests) in omega arith

pub in_one_range : (a n v : ℕ) → a ≤ v → v < a + n → total (λ h. one (nat_eq v h)) (range_with_len a n) ≡ 1
in_one_range a zero v x h = absurd (omega arith)
in_one_range a (suc n) v x h = elim (cases_lt a v) [
  | inl less ↦ (let y : one (nat_eq v a) ≡ 0 = grind (arith, nat_tests) in let z = in_one_range (a + 1) n v (omega arith) (omega arith) in omega arith)
  | inr more ↦ (let y : one (nat_eq v a) ≡ 1 = ap one (eq-eqb v a (omega arith)) in let z = outside_range (a + 1) n v (omega arith) in omega arith)
]
