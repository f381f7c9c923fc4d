-- A list that has each number below a bound is at least as long as the bound.
use Rattle.std.proofs.Common.{◌≡◌, ◌≤◌, ◌<◌, ℕ, zero, suc, ◌+◌, Bool, true, false, cond, not, List, [], ◌∷◌, length, filter, ap, inl, inr, arith, nat_eq}
use Rattle.std.proofs.lemmas.Bool.Decides.{nat_tests}
use Rattle.base_kit.proofs.Elements.{In, in_filter}

abbrev others : ℕ → List ℕ → List ℕ
others n xs = filter (λ x. not (nat_eq x n)) xs

no_longer : (n : ℕ) (xs : List ℕ) → length (others n xs) ≤ length xs
no_longer n [] = omega arith
no_longer n (x ∷ xs) = by (not (nat_eq x n)) (no_longer n xs)
  where
    by : (b : Bool) → length (others n xs) ≤ length xs → length (cond b (x ∷ others n xs) (others n xs)) ≤ suc (length xs)
    by true few = omega (arith, few)
    by false few = omega (arith, few)

one_less : (n : ℕ) (xs : List ℕ) → In xs n → length (others n xs) + 1 ≤ length xs
one_less n [] at = absurd at
one_less n (x ∷ xs) (inl here) = (
    let off : not (nat_eq x n) ≡ false = grind (arith, nat_tests) in
    let same = ap (λ b. length (cond b (x ∷ others n xs) (others n xs))) off in
    omega (arith, same, no_longer n xs)
    )
one_less n (x ∷ xs) (inr there) = by (not (nat_eq x n)) (one_less n xs there)
  where
    by : (b : Bool) → length (others n xs) + 1 ≤ length xs → length (cond b (x ∷ others n xs) (others n xs)) + 1 ≤ suc (length xs)
    by true few = omega (arith, few)
    by false few = omega (arith, few)

pub covered : (m : ℕ) (xs : List ℕ) → ((g : ℕ) → g < m → In xs g) → m ≤ length xs
covered zero xs each = omega arith
covered (suc m) xs each =
    let more = covered m (others m xs)
    (λ g less. in_filter (λ x. not (nat_eq x m)) xs g (each g (omega arith)) (let other : not (nat_eq g m) ≡ true = grind (arith, nat_tests) in other)) in
    omega (arith, more, one_less m xs (each m (omega arith)))
