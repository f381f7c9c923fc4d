-- If a command does its work only on stable labels, its outcome tells what `check` says of them.
use Rattle.std.proofs.Common.{◌≡◌, inl, inr, ℕ, List, sym, ap, Option, Some, None, Result, Ok, Err, codes}
use Rattle.std.specs.Prelude.{IsSome}
use Rattle.srp_core.specs.declared.route.Route.{Route}
use Rattle.srp_core.specs.Alike.{ProblemsAlike}
use Rattle.srp_core.specs.Problem.{Problem, IsProblem}
use Rattle.solution_check.specs.declared.judgement.Answer.{Answer}
use Rattle.solution_check.specs.declared.judgement.Answer.TheVariants.{Stable, Not}
use Rattle.solution_text.specs.declared.refusal.SolRefusal.{SolRefusal}
use Rattle.solution_text.specs.declared.refusal.SolRefusal.TheVariants as sol_refusal
use Rattle.solution_text.specs.Solutions.{labels_of_text}
use Rattle.answer_kit.specs.declared.status.Status.{Status}
use Rattle.answer_kit.specs.declared.status.Status.TheVariants.{Done}
use Rattle.answer_kit.specs.Outcome.{Outcome, done}
use Rattle.answer_kit.specs.SecondFiles.{IsOfLabels, IsOfSolution}
use Rattle.answer_kit.proofs.OneText.{one_of_solution}
use Rattle.answer_solutions.specs.Carries.{IsIfStable, IsOfStable}
use Rattle.answer_solutions.specs.Checks.{told_of, IsJudgement}
use Rattle.answer_solutions.proofs.OneCheck.{one_judgement}
use Rattle.workflow_laws.specs.Setting.{said, verdict_told}

-- the work is done wherever it is allowed
abbrev pub IsWork : (List (Option Route) → Outcome → Type 0) → Type 0
IsWork A = (labels : List (Option Route)) (o : Outcome) → A labels o → o.status ≡ Done

pub done_says : (o : Outcome) → o.status ≡ Done → verdict_told o ≡ done (codes "stable\n")
done_says o is = ap (λ (s : Status). said s o) is

module _ (P : Problem) (A : List (Option Route) → Outcome → Type 0) (work : IsWork A) where
  told : (labels : List (Option Route)) (o : Outcome) (a : Answer) → IsIfStable P (A labels) a o → verdict_told o ≡ told_of P a
  told labels o Stable is = done_says o (work labels o is)
  told labels o (Not router why) is = ap verdict_told is

  judgement : (labels : List (Option Route)) (o : Outcome) → IsOfStable P labels (A labels) o → IsJudgement P labels (verdict_told o)
  judgement labels o is = record { fitting = is.fitting; answer = is.answer; judged = is.judged; told = told labels o is.answer is.told }

  of_labels : (r : Result (List (Option Route)) SolRefusal) (o : Outcome) → IsOfLabels (λ labels. IsOfStable P labels (A labels)) r o
      → IsOfLabels (IsJudgement P) r (verdict_told o)
  of_labels (Ok labels) o is = judgement labels o is
  of_labels (Err (sol_refusal.At line kind)) o is = ap verdict_told is
  of_labels (Err sol_refusal.Memory) o is = absurd is

  of_solution : (second : Option (List ℕ)) (o : Outcome) → IsOfSolution P second (λ labels. IsOfStable P labels (A labels)) o
      → IsOfSolution P second (IsJudgement P) (verdict_told o)
  of_solution None o is = tt
  of_solution (Some text) o (inl long) = inl (long.0, ap verdict_told long.1)
  of_solution (Some text) o (inr short) = inr (short.0, of_labels (labels_of_text P.protocol P.names text) o short.1)

  -- what `check` says over a problem that is alike
  pub says_so : (Q : Problem) → ProblemsAlike P Q → IsProblem P → (second : Option (List ℕ)) → IsSome second → (o p : Outcome)
      → IsOfSolution P second (λ labels. IsOfStable P labels (A labels)) o → IsOfSolution Q second (IsJudgement Q) p → p ≡ verdict_told o
  says_so Q same rules second is_told o p x y =
      sym (one_of_solution P Q same.protocol same.names (IsJudgement P) (IsJudgement Q) (one_judgement P Q same rules) second is_told (verdict_told o) p
      (of_solution second o x) y)
