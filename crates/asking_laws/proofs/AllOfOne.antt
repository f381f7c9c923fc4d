-- A list of one member that is all solutions.
use Rattle.std.proofs.Common.{zero, List, [], ◌∷◌, Option, refl, subst, inl, inr, arith}
use Rattle.std.proofs.lemmas.Option.{slice_get_within}
use Rattle.base_kit.proofs.Elements.{in_contains}
use Rattle.srp_core.specs.declared.route.Route.{Route}
use Rattle.srp_core.specs.Problem.{Problem}
use Rattle.srp_core.specs.Solutions.{HaveEqualKeys, AreAllSolutions}
use Rattle.srp_core.specs.Stability.{IsStable}

pub all_of_one : (P : Problem) (L : List (Option Route)) → IsStable P L → ((M : List (Option Route)) → IsStable P M → HaveEqualKeys P M L) →
    AreAllSolutions P (L ∷ [])
all_of_one P L st one = record {
  stable = λ M inside. elim (in_contains (L ∷ []) M inside) [ inl same ↦ subst (IsStable P) same st | inr none ↦ absurd none ];
  apart = λ i j first second less at at' keys.
      let within = slice_get_within (L ∷ []) j second at' in
      let within' = slice_get_within (L ∷ []) i first at in
      absurd (omega arith);
  all = λ M st'. record { member = L; inside = (zero, omega arith, refl); keys = one M st' };
}
