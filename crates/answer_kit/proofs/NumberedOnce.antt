-- Public: numbered groups that refine each other are the same.
use Rattle.std.proofs.Common.{◌≡◌, ◌⊎◌, inl, inr, ℕ, zero, suc, ◌<◌, List, length, sym, ◌∙◌, arith, ext_get_or}
use Rattle.std.specs.Prelude.{slice_index}
use Rattle.base_kit.specs.Partition.{Refines, IsNumbered}

cases : (a b : ℕ) → (a < b) ⊎ ((b < a) ⊎ (a ≡ b))
cases zero zero = inr (inr (omega arith))
cases zero (suc b) = inl (omega arith)
cases (suc a) zero = inr (inl (omega arith))
cases (suc a) (suc b) = elim (cases a b) [
  | inl less ↦ inl (omega (arith, less))
  | inr (inl more) ↦ inr (inl (omega (arith, more)))
  | inr (inr same) ↦ inr (inr (omega (arith, same)))
]

-- a number that is less than the one at the same place of the other list was met before, at one place in both
not_less : (xs ys : List ℕ) (n v : ℕ) → length xs ≡ length ys → IsNumbered ys n → Refines (length xs) xs ys → v < length xs
    → ((u : ℕ) → u < v → slice_index xs u ≡ slice_index ys u) → slice_index xs v < slice_index ys v → ⊥
not_less xs ys n v same numbered there h before less =
    let w = numbered.in_order v (slice_index xs v) (omega (arith, same, h)) less in
    let met : slice_index xs w.0 ≡ slice_index xs v = before w.0 w.1 ∙ w.2 in
    let together : slice_index ys w.0 ≡ slice_index ys v = there w.0 v (omega (arith, w.1, h)) h met in
    omega (arith, less, together, w.2)

module _ (xs ys : List ℕ) (m n : ℕ) (same : length xs ≡ length ys) (a : IsNumbered xs m) (b : IsNumbered ys n) (there : Refines (length xs) xs ys)
    (back : Refines (length ys) ys xs) where
  at : (bound v : ℕ) → v < bound → v < length xs → slice_index xs v ≡ slice_index ys v
  at zero v below h = absurd (omega (arith, below))
  at (suc bound) v below h =
      let before = λ (u : ℕ) (less : u < v). at bound u (omega (arith, below, less)) (omega (arith, less, h)) in
      elim (cases (slice_index xs v) (slice_index ys v)) [
        | inl less ↦ absurd (not_less xs ys n v same b there h before less)
        | inr (inl more) ↦ absurd (not_less ys xs m v (sym same) a back (omega (arith, same, h)) (λ u less. sym (before u less)) more)
        | inr (inr equal) ↦ equal
      ]

  pub one_numbering : xs ≡ ys
  one_numbering = ext_get_or 0 xs ys same (λ i h. at (suc i) i (omega arith) h)

-- the count of groups is determined by them
not_fewer : (xs : List ℕ) (m n : ℕ) → IsNumbered xs m → IsNumbered xs n → m < n → ⊥
not_fewer xs m n a b less =
    let c = b.used m less in
    let below : slice_index xs c.0 < m = a.below c.0 0 c.1 in
    omega (arith, below, c.2)

pub one_count_of_groups : (xs : List ℕ) (m n : ℕ) → IsNumbered xs m → IsNumbered xs n → m ≡ n
one_count_of_groups xs m n a b = elim (cases m n) [
  | inl less ↦ absurd (not_fewer xs m n a b less)
  | inr (inl more) ↦ absurd (not_fewer xs n m b a more)
  | inr (inr equal) ↦ equal
]
