-- How far a search may still go: a number that falls with each of its steps.
use Rattle.std.proofs.Common.{◌≡◌, ℕ, zero, suc, ◌+◌, ◌^◌, ◌<◌, List, [], ◌∷◌, length, set, Option, Some, None, sym, subst, inl, inr, arith}
use Rattle.std.specs.Prelude.{slice_index_or}
use Rattle.srp_core.specs.declared.route.Route.{Route}
use Rattle.srp_core.specs.Stability.{label}
use Rattle.solution_search.specs.Burdens.{missing, patience_by, patience, weight, tripled, burden}
use Rattle.solution_search.specs.Cases.{Case, waits_above, IsAbove, taken, waiting}

missing_less : (labels : List (Option Route)) (u : ℕ) (d : Route) → u < length labels → label labels u ≡ None → missing (set labels u (Some d)) < missing labels
unfolding missing
missing_less [] u d h e = absurd (omega arith)
missing_less (None ∷ labels) zero d h e = omega arith
missing_less (Some r ∷ labels) zero d h e = absurd (cc)
missing_less (None ∷ labels) (suc u) d h e = let l = missing_less labels u d (omega arith) e in omega (arith, l)
missing_less (Some r ∷ labels) (suc u) d h e = missing_less labels u d (omega arith) e

patient : (o : Option ℕ) (p : ℕ) → p < 2 ^ 32 → IsAbove o p → patience_by (Some p) < patience_by o
unfolding patience_by
patient None p few h = omega arith
patient (Some q) p few h = omega arith

patience_less : (waits : List (Option ℕ)) (u p : ℕ) → u < length waits → p < 2 ^ 32 → IsAbove (slice_index_or waits u None) p →
    patience (set waits u (Some p)) < patience waits
unfolding patience
patience_less [] u p h few a = absurd (omega arith)
patience_less (o ∷ waits) zero p h few a = let l = patient o p few a in omega (arith, l)
patience_less (o ∷ waits) (suc u) p h few a = let l = patience_less waits u p (omega arith) few a in omega (arith, l)

some_tripled : (n : ℕ) → 0 < tripled n
unfolding tripled
some_tripled zero = omega arith
some_tripled (suc n) = let h = some_tripled n in omega (arith, h)

-- twice a smaller power is less
two_tripled : (m n : ℕ) → m < n → tripled m + tripled m < tripled n
unfolding tripled
two_tripled m zero h = absurd (omega arith)
two_tripled m (suc n) h = elim (Rattle.std.proofs.lemmas.Bool.cases_lt m n) [
  | inl less ↦ let l = two_tripled m n less in let s = some_tripled n in omega (arith, l, s)
  | inr more ↦
      let same : m ≡ n = omega arith in
      let s = some_tripled n in
      subst (λ x. tripled x + tripled x < tripled n + (tripled n + tripled n)) (sym same) (omega (arith, s))
]

less_tripled : (m n : ℕ) → m < n → tripled m < tripled n
less_tripled m n h = let l = two_tripled m n h in omega (arith, l)

-- of two smaller numbers
sum_tripled : (m k n : ℕ) → m < n → k < n → tripled m + tripled k < tripled n
sum_tripled m k n h g = elim (Rattle.std.proofs.lemmas.Bool.cases_lt m k) [
  | inl less ↦ let l = less_tripled m k less in let t = two_tripled k n g in omega (arith, l, t)
  | inr more ↦ elim (Rattle.std.proofs.lemmas.Bool.cases_lt k m) [
    | inl less ↦ let l = less_tripled k m less in let t = two_tripled m n h in omega (arith, l, t)
    | inr not ↦
        let same : m ≡ k = omega arith in
        let t = two_tripled m n h in
        subst (λ x. tripled m + tripled x < tripled n) same t
  ]
]

taken_less : (case : Case) (u : ℕ) (d : Route) → u < length case.labels → label case.labels u ≡ None → weight (taken case u d) < weight case
unfolding weight
taken_less case u d h e = let l = missing_less case.labels u d h e in omega (arith, l)

waiting_less : (case : Case) (u p : ℕ) → u < length case.waits → p < 2 ^ 32 → IsAbove (waits_above case u) p → weight (waiting case u p) < weight case
unfolding weight
waiting_less case u p h few a = let l = patience_less case.waits u p h few a in omega (arith, l)

pub settled_lighter : (case : Case) (cases : List Case) (u : ℕ) (d : Route) → u < length case.labels → label case.labels u ≡ None →
    burden (taken case u d ∷ cases) < burden (case ∷ cases)
unfolding burden
settled_lighter case cases u d h e =
    let l = less_tripled (weight (taken case u d)) (weight case) (taken_less case u d h e) in omega (arith, l)

pub forked_lighter : (case : Case) (cases : List Case) (u p : ℕ) (d : Route) → u < length case.labels → label case.labels u ≡ None → u < length case.waits →
    p < 2 ^ 32 → IsAbove (waits_above case u) p → burden (taken case u d ∷ waiting case u p ∷ cases) < burden (case ∷ cases)
unfolding burden
forked_lighter case cases u p d h e g few a =
    let l = sum_tripled (weight (taken case u d)) (weight (waiting case u p)) (weight case) (taken_less case u d h e) (waiting_less case u p g few a) in
    omega (arith, l)

pub waiting_lighter : (case : Case) (cases : List Case) (u p : ℕ) → u < length case.waits → p < 2 ^ 32 → IsAbove (waits_above case u) p →
    burden (waiting case u p ∷ cases) < burden (case ∷ cases)
unfolding burden
waiting_lighter case cases u p g few a =
    let l = less_tripled (weight (waiting case u p)) (weight case) (waiting_less case u p g few a) in omega (arith, l)

pub dropped_lighter : (case : Case) (cases : List Case) → burden cases < burden (case ∷ cases)
unfolding burden
dropped_lighter case cases = let s = some_tripled (weight case) in omega (arith, s)
