-- Decisions about all numbers below another one, and about all items of a list.
use Rattle.std.proofs.Common.{◌≡◌, ◌⊎◌, inl, inr, ℕ, zero, suc, ◌<◌, Bool, true, false, ◌&&◌, List, [], ◌∷◌, slice_get, Some, refl, sym, subst, arith}
use Rattle.std.specs.List.{list_all}
use Rattle.std.proofs.lemmas.Bool.{cases_eq}

-- one of the two holds of each number below n: so the first of all, or the second of some
pub below : (n : ℕ) (P Q : ℕ → Type 0) → ((u : ℕ) → u < n → P u ⊎ Q u) → ((u : ℕ) → u < n → P u) ⊎ ((u : ℕ) × (u < n) × Q u)
below zero P Q each = inl (λ u h. absurd (omega arith))
below (suc n) P Q each = elim (each n (omega arith)) [
  | inr some ↦ inr (n, omega arith, some)
  | inl last ↦ elim (below n P Q (λ u h. each u (omega arith))) [
    | inr some ↦ inr (some.0, (let h = some.1 in omega arith), some.2)
    | inl all ↦ inl (λ u h. (elim (cases_eq u n) [
      | inl same ↦ subst P (sym same) last
      | inr other ↦ all u (omega arith)
    ]))
  ]
]

-- an item of which a test fails
pub record Fails {X : Type 0} (test : X → Bool) (xs : List X) : Type 0 where
  pub place : ℕ
  pub item : X
  pub at : slice_get xs place ≡ Some item
  pub fails : test item ≡ false

pub some_fails : {X : Type 0} (test : X → Bool) (xs : List X) → list_all test xs ≡ false → Fails test xs
some_fails test [] e = absurd cc
some_fails {X} test (x ∷ xs) e = by (some_fails test xs) (test x) refl e
  where
    by : (list_all test xs ≡ false → Fails test xs) → (b : Bool) → test x ≡ b → b && list_all test xs ≡ false → Fails test (x ∷ xs)
    by later false is e = record { place = 0; item = x; at = refl; fails = is }
    by later true is e = (let f = later e in record { place = suc f.place; item = f.item; at = f.at; fails = f.fails })
