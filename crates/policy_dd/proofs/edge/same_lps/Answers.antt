use Rattle.std.proofs.Common.{ℕ, ◌≡◌, nat_eq, ◌&&◌, true, false, refl, ap, Bool}
use Rattle.std.specs.Bool.{Decides}
use Rattle.std.proofs.lemmas.Bool.Decides.{Decides-eqb}
use Rattle.std.proofs.lemmas.Slice.Eq.{slice_eq-Decides}
use Rattle.policy_dd.proofs.edge.same_lps.Goals as goal

both : (a b : Bool) → a && b ≡ true → (a ≡ true) × (b ≡ true)
both true b e = (refl, e)
both false b e = absurd cc

pair_decides : (x y : ℕ × ℕ) → Decides (nat_eq x.0 y.0 && nat_eq x.1 y.1) (x ≡ y)
pair_decides (a, b) (c, d) = (
  λ is. let e = both (nat_eq a c) (nat_eq b d) is in let e1 : a ≡ c = (Decides-eqb a c).0 e.0 in let e2 : b ≡ d = (Decides-eqb b d).0 e.1 in cc,
  λ is. let e1 : a ≡ c = ap (λ (p : ℕ × ℕ). p.0) is in let e2 : b ≡ d = ap (λ (p : ℕ × ℕ). p.1) is in rw ((Decides-eqb a c).1 e1, (Decides-eqb b d).1 e2) refl,
)

pub returns-clause-same : goal.returns-clause-same
returns-clause-same c = (slice_eq-Decides pair_decides _ _ _ c.eq.ensures).0

pub returns-clause-different : goal.returns-clause-different
returns-clause-different c = (slice_eq-Decides pair_decides _ _ _ c.eq.ensures).1
