-- Public: what `check` tells of a class is determined.
use Rattle.std.proofs.Common.{◌≡◌, ℕ, List, [], ◌++◌, refl, sym, ap, ◌∙◌, codes, Option}
use Rattle.std.specs.Prelude.{Contains, IsSome, slice_index_or}
use Rattle.cfg_ast.specs.declared.network.Network.{Network}
use Rattle.cfg_ast.specs.declared.classes.DestClass.{DestClass}
use Rattle.cfg_ast.specs.meaning.Classes.{classes_of}
use Rattle.srp_core.specs.declared.route.Route.{Route}
use Rattle.srp_core.specs.Alike.{ProblemsAlike}
use Rattle.srp_core.specs.Problem.{Problem, IsProblem}
use Rattle.solution_check.specs.declared.judgement.Answer.{Answer}
use Rattle.solution_check.specs.declared.judgement.Answer.TheVariants.{Stable, Not}
use Rattle.solution_check.proofs.OneAnswer.{one_answer}
use Rattle.answer_solutions.specs.Checks.{name_of_break, told_of, IsJudgement, IsCheckOf}
use Rattle.answer_kit.specs.Outcome.{Outcome, not_stable}
use Rattle.answer_solutions.proofs.OneOfSolution.{one_of_class_solution}

module _ (P Q : Problem) (same : ProblemsAlike P Q) (rules : IsProblem P) where
  one_told : (a : Answer) → told_of P a ≡ told_of Q a
  one_told Stable = refl
  one_told (Not router why) = ap (λ (names : List (List ℕ)). not_stable (slice_index_or names router [] ++ codes " " ++ name_of_break why)) same.names

  pub one_judgement : (labels : List (Option Route)) (o p : Outcome) → IsJudgement P labels o → IsJudgement Q labels p → o ≡ p
  one_judgement labels o p x y =
      x.told ∙ ap (told_of P) (one_answer P Q labels rules same x.fitting x.answer y.answer x.judged y.judged) ∙ one_told y.answer ∙ sym y.told

pub one_check : (n : Network) (class : DestClass) → Contains (classes_of n) class → (second : Option (List ℕ)) → IsSome second → (o p : Outcome)
    → IsCheckOf n second class o → IsCheckOf n second class p → o ≡ p
one_check = one_of_class_solution IsJudgement one_judgement
