-- The first member of a group.
use Rattle.std.proofs.Common.{◌≡◌, ℕ, zero, suc, ◌+◌, ◌<◌, Bool, true, false, cond, nat_eq, List, [], ◌∷◌, map, filter, length, refl, sym, ◌∙◌, ap, subst, inl, inr, arith}
use Rattle.std.specs.Prelude.{slice_index, Contains}
use Rattle.std.specs.List.{range_with_len}
use Rattle.std.proofs.lemmas.Bool.{cases_lt}
use Rattle.std.proofs.lemmas.Bool.Decides.{nat_tests}
use Rattle.base_kit.proofs.Elements.{In, in_contains}
use Rattle.base_kit.specs.Partition.{IsNumbered, members_of}
use Rattle.srp_quotient.specs.Groups.{first_member}

-- what passes from the next number on
shifted : (p : ℕ → Bool) (s n : ℕ) → filter p (range_with_len (s + 1) n) ≡ map suc (filter (λ r. p (suc r)) (range_with_len s n))
shifted p s zero = refl
shifted p s (suc n) = step (p (s + 1)) (p (suc s)) (ap p (omega arith)) (shifted p (s + 1) n) where
  step : (a b : Bool) → a ≡ b → filter p (range_with_len (s + 1 + 1) n) ≡ map suc (filter (λ r. p (suc r)) (range_with_len (s + 1) n))
      → cond a ((s + 1) ∷ filter p (range_with_len (s + 1 + 1) n)) (filter p (range_with_len (s + 1 + 1) n)) ≡ map suc
      (cond b (s ∷ filter (λ r. p (suc r)) (range_with_len (s + 1) n)) (filter (λ r. p (suc r)) (range_with_len (s + 1) n)))
  step true true e rest = ap (λ k. k ∷ filter p (range_with_len (s + 1 + 1) n)) (let one : s + 1 ≡ suc s = omega arith in one) ∙ ap (λ ks. suc s ∷ ks) rest
  step true false e rest = absurd cc
  step false true e rest = absurd cc
  step false false e rest = rest

pub members_cons : (x : ℕ) (xs : List ℕ) (g : ℕ) → members_of (x ∷ xs) g ≡ cond (nat_eq x g) (0 ∷ map suc (members_of xs g)) (map suc (members_of xs g))
members_cons x xs g = ap (λ ks. cond (nat_eq x g) (0 ∷ ks) ks) (shifted (λ r. nat_eq (slice_index (x ∷ xs) r) g) 0 (length xs))

pub record BeginsWith (members : List ℕ) (k : ℕ) : Type 0 where
  pub some : 0 < length members
  pub first : slice_index members 0 ≡ k

first_later : (ks : List ℕ) (k : ℕ) → BeginsWith ks k → BeginsWith (map suc ks) (suc k)
first_later [] k is = absurd (omega (arith, is.some))
first_later (x ∷ ks) k is = record { some = omega arith; first = ap suc is.first }

other : (x g : ℕ) → nat_eq x g ≡ false → x ≡ g → ⊥
other x g e same = grind (arith, nat_tests)

first_in : (xs : List ℕ) (g : ℕ) → In xs g → BeginsWith (members_of xs g) (first_member xs g)
first_in [] g at = absurd at
first_in (x ∷ xs) g at = subst (λ ks. BeginsWith ks (cond (nat_eq x g) 0 (suc (first_member xs g)))) (sym (members_cons x xs g))
    (step (first_in xs g) (nat_eq x g) refl at) where
      step : (In xs g → BeginsWith (members_of xs g) (first_member xs g)) → (b : Bool) → nat_eq x g ≡ b → In (x ∷ xs) g →
          BeginsWith (cond b (0 ∷ map suc (members_of xs g)) (map suc (members_of xs g))) (cond b 0 (suc (first_member xs g)))
      step deeper true e at = record { some = omega arith; first = refl }
      step deeper false e (inl same) = absurd (other x g e same)
      step deeper false e (inr later) = first_later (members_of xs g) (first_member xs g) (deeper later)

pub first_is : (xs : List ℕ) (g : ℕ) → Contains xs g → BeginsWith (members_of xs g) (first_member xs g)
first_is xs g has = first_in xs g (in_contains xs g has)

-- ---- how many groups there are

not_fewer : (xs : List ℕ) (m n : ℕ) → IsNumbered xs m → IsNumbered xs n → m < n → ⊥
not_fewer xs m n a b less =
    let c = b.used m less in
    let below : slice_index xs c.0 < m = a.below c.0 0 c.1 in
    omega (arith, below, c.2)

pub one_count : (xs : List ℕ) (m n : ℕ) → IsNumbered xs m → IsNumbered xs n → m ≡ n
one_count xs m n a b = elim (cases_lt m n) [
  | inl less ↦ absurd (not_fewer xs m n a b less)
  | inr most ↦ elim (cases_lt n m) [ inl less ↦ absurd (not_fewer xs n m b a less) | inr least ↦ omega (arith, most, least) ]
]
