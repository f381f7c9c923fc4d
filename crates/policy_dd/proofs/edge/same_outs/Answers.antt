use Rattle.std.proofs.Common.{ℕ, ◌≡◌, nat_eq, ◌&&◌, true, false, refl, ap, Bool}
use Rattle.std.specs.Bool.{Decides}
use Rattle.std.proofs.lemmas.Bool.Decides.{Decides-eqb}
use Rattle.std.proofs.lemmas.Slice.Eq.{slice_eq-Decides}
use Rattle.base_kit.specs.declared.ids.Community.{Community}
use Rattle.policy_dd.proofs.SameLemmas.{outs_case_is}
use Rattle.policy_dd.proofs.edge.same_outs.Goals as goal

both : (a b : Bool) → a && b ≡ true → (a ≡ true) × (b ≡ true)
both true b e = (refl, e)
both false b e = absurd cc

case_decides : (x y : Community × ℕ) → Decides (nat_eq x.0.0 y.0.0 && nat_eq x.1 y.1) (x ≡ y)
case_decides x y = (
  λ is. let e = both (nat_eq x.0.0 y.0.0) (nat_eq x.1 y.1) is in outs_case_is x y ((Decides-eqb x.0.0 y.0.0).0 e.0) ((Decides-eqb x.1 y.1).0 e.1),
  λ is. let e1 : x.0.0 ≡ y.0.0 = ap (λ (p : Community × ℕ). p.0.0) is in let e2 : x.1 ≡ y.1 = ap (λ (p : Community × ℕ). p.1) is in
      rw ((Decides-eqb x.0.0 y.0.0).1 e1, (Decides-eqb x.1 y.1).1 e2) refl,
)

pub returns-clause-same : goal.returns-clause-same
returns-clause-same c = (slice_eq-Decides case_decides _ _ _ c.eq.ensures).0

pub returns-clause-different : goal.returns-clause-different
returns-clause-different c = (slice_eq-Decides case_decides _ _ _ c.eq.ensures).1
