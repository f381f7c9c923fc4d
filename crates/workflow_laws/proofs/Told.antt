-- What is reported of stable labels.
use Rattle.std.proofs.Common.{◌≡◌, ◌≤◌, inl, inr, ℕ, List, length, sym, ap, ◌∙◌, subst, arith, Option, Some, Result, Ok, codes}
use Rattle.srp_core.specs.declared.route.Route.{Route}
use Rattle.srp_core.specs.Alike.{ProblemsAlike}
use Rattle.srp_core.specs.Problem.{Problem, IsProblem}
use Rattle.srp_core.specs.Stability.{IsStable}
use Rattle.solution_check.specs.declared.judgement.Answer.{Answer}
use Rattle.solution_check.specs.declared.judgement.Answer.TheVariants.{Stable}
use Rattle.solution_check.proofs.OneAnswer.{one_answer}
use Rattle.solution_text.specs.declared.refusal.SolRefusal.{SolRefusal}
use Rattle.solution_text.specs.Solutions.{labels_of_text}
use Rattle.answer_kit.specs.Outcome.{Outcome, done}
use Rattle.answer_kit.specs.SecondFiles.{solution_limit, IsOfLabels, IsOfSolution}
use Rattle.answer_solutions.specs.Carries.{IsIfStable, IsOfStable}
use Rattle.answer_solutions.specs.Checks.{told_of, IsJudgement}

-- what is allowed of the labels that a short text gives
pub of_read : (P : Problem) (A : List (Option Route) → Outcome → Type 0) (text : List ℕ) (labels : List (Option Route)) (o : Outcome)
    → length text ≤ solution_limit → labels_of_text P.protocol P.names text ≡ Ok labels → IsOfSolution P (Some text) A o → A labels o
of_read P A text labels o short reads (inl long) = absurd (omega (arith, long.0, short))
of_read P A text labels o short reads (inr is) = subst (λ (r : Result (List (Option Route)) SolRefusal). IsOfLabels A r o) reads is.1

module _ (P Q : Problem) (same : ProblemsAlike P Q) (rules : IsProblem P) (labels : List (Option Route)) (stable : IsStable P labels) where
  pub told_stable : (o : Outcome) → IsJudgement Q labels o → o ≡ done (codes "stable\n")
  told_stable o is = is.told ∙ ap (told_of Q) (sym (one_answer P Q labels rules same stable.fitting Stable is.answer stable is.judged))

  -- and work is done on them
  pub work_is_done : (A : Outcome → Type 0) (o : Outcome) → IsOfStable Q labels A o → A o
  work_is_done A o is = subst (λ (a : Answer). IsIfStable Q A a o) (sym (one_answer P Q labels rules same stable.fitting Stable is.answer stable is.judged))
      is.told

  pub reads_too : (text : List ℕ) → labels_of_text P.protocol P.names text ≡ Ok labels → labels_of_text Q.protocol Q.names text ≡ Ok labels
  reads_too text reads = (λ j. labels_of_text (sym same.protocol j) (sym same.names j) text) ∙ reads

  pub text_told_stable : (text : List ℕ) (o : Outcome) → length text ≤ solution_limit → labels_of_text P.protocol P.names text ≡ Ok labels
      → IsOfSolution Q (Some text) (IsJudgement Q) o → o ≡ done (codes "stable\n")
  text_told_stable text o short reads is = told_stable o (of_read Q (IsJudgement Q) text labels o short (reads_too text reads) is)
