-- Lists of numbers with the same members.
use Rattle.std.proofs.Common.{◌≡◌, ℕ, zero, suc, ◌+◌, ◌<◌, Bool, true, false, ◌||◌, List, [], ◌∷◌, length, nat_eq, refl, sym, ap, ◌∙◌, arith, true≢false}
use Rattle.std.specs.Prelude.{Contains, slice_index}
use Rattle.std.specs.List.Sorted.{IsStrictlyIncreasing}
use Rattle.std.proofs.lemmas.Bool.{eqb-true, eq-eqb}
use Rattle.std.proofs.lemmas.List.Kept.{AllPairs-from_increasing}
use Rattle.base_kit.specs.Sets.{has, AllAbove, IsAscending}

above : (n : ℕ) (xs : List ℕ) → ((k : ℕ) → k < length xs → n < slice_index xs k) → AllAbove n xs
above n [] h = tt
above n (x ∷ xs) h = (h 0 (omega arith), above n xs (λ k lt. h (suc k) (omega arith)))

pub ascends : (xs : List ℕ) → IsStrictlyIncreasing xs → IsAscending xs
ascends [] up = tt
ascends (x ∷ xs) up = (
  above x xs (λ k lt. AllPairs-from_increasing (x ∷ xs) up 0 (suc k) 0 (omega arith) (omega arith)),
  ascends xs (λ k lt. AllPairs-from_increasing (x ∷ xs) up (suc k) (suc (k + 1)) 0 (omega arith) (omega arith)),
)

later : (x n : ℕ) (xs : List ℕ) → Contains xs n → Contains (x ∷ xs) n
later x n xs h = let lt = h.1 in (suc h.0, omega arith, h.2)

contains_by : (x n : ℕ) (xs : List ℕ) (b : Bool) → nat_eq x n ≡ b → (has xs n ≡ true → Contains xs n) → has (x ∷ xs) n ≡ true → Contains (x ∷ xs) n
contains_by x n xs true same rest e = (0, omega arith, eqb-true x n same)
contains_by x n xs false other rest e = later x n xs (rest (sym (ap (λ (b : Bool). b || has xs n) other) ∙ e))

has_contains : (xs : List ℕ) (n : ℕ) → has xs n ≡ true → Contains xs n
has_contains [] n e = absurd (true≢false (sym e))
has_contains (x ∷ xs) n e = contains_by x n xs (nat_eq x n) refl (has_contains xs n) e

contains_has : (xs : List ℕ) (n : ℕ) → Contains xs n → has xs n ≡ true
contains_has [] n h = let l = h.1 in absurd (omega arith)
contains_has (x ∷ xs) n (zero, l, e) = rw (eq-eqb x n e) refl
contains_has (x ∷ xs) n (suc k, l, e) = rw (contains_has xs n (k, omega arith, e)) (or_true (nat_eq x n))
  where
    or_true : (b : Bool) → b || true ≡ true
    or_true true = refl
    or_true false = refl

pub same_members : (xs ys : List ℕ) → ((n : ℕ) → Contains xs n → Contains ys n) → ((n : ℕ) → Contains ys n → Contains xs n) → (n : ℕ) → has xs n ≡ has ys n
same_members xs ys there back n = by (has xs n) refl (has ys n) refl
  where
    by : (a : Bool) → has xs n ≡ a → (b : Bool) → has ys n ≡ b → a ≡ b
    by true e true f = refl
    by false e false f = refl
    by true e false f = sym (contains_has ys n (there n (has_contains xs n e))) ∙ f
    by false e true f = sym e ∙ contains_has xs n (back n (has_contains ys n f))
