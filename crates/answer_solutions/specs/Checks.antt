-- What the command `check` reports of a solution.
use Rattle.std.specs.Prelude.{◌≡◌, ℕ, List, [], ◌++◌, codes, Option, slice_index_or, nat_eq, if◌then◌else◌}
use Rattle.cfg_ast.specs.declared.network.Network.{Network}
use Rattle.cfg_ast.specs.declared.classes.DestClass.{DestClass}
use Rattle.cfg_ast.specs.meaning.Classes.{classes_of}
use Rattle.srp_core.specs.declared.route.Route.{Route}
use Rattle.srp_core.specs.Problem.{Problem}
use Rattle.srp_core.specs.Stability.{AreLabels}
use Rattle.solution_check.specs.declared.judgement.Answer.{Answer}
use Rattle.solution_check.specs.declared.judgement.Answer.TheVariants.{Stable, Not}
use Rattle.solution_check.specs.Breaks.{Judges}
use Rattle.answer_kit.specs.Outcome.{Outcome, done, not_stable}
use Rattle.answer_kit.specs.ClassNumbers.{class_at, IsOfClass}
use Rattle.answer_solutions.specs.ClassSolutions.{IsOfClassSolution}

-- why a router breaks stability
abbrev pub name_of_break : ℕ → List ℕ
name_of_break why =
    if nat_eq why 1 then codes "wrong-origin" else
    (if nat_eq why 2 then codes "not-a-candidate" else
    (if nat_eq why 3 then codes "better-candidate" else codes "none-with-candidate"))

-- the first router that breaks it, and why
abbrev pub break_reason : Problem → ℕ → ℕ → List ℕ
break_reason problem router why = slice_index_or problem.names router [] ++ codes " " ++ name_of_break why

abbrev pub told_of : Problem → Answer → Outcome
told_of problem Stable = done (codes "stable\n")
told_of problem (Not router why) = not_stable (break_reason problem router why)

-- labels of the problem are judged, and the answer is reported
pub record IsJudgement (problem : Problem) (labels : List (Option Route)) (o : Outcome) : Type 0 where
  pub fitting : AreLabels problem labels
  pub answer : Answer
  pub judged : Judges problem labels answer
  pub told : o ≡ told_of problem answer

-- what `check` is to report of a class
abbrev pub IsCheckOf : Network → Option (List ℕ) → DestClass → Outcome → Type 0
IsCheckOf = IsOfClassSolution IsJudgement

-- what `check` is to report of a network and the number of a class
abbrev pub IsCheckAnswer : Network → ℕ → Option (List ℕ) → Outcome → Type 0
IsCheckAnswer network number second = IsOfClass (class_at (classes_of network) number) number (IsCheckOf network second)
