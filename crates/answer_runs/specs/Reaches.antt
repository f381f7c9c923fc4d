-- What the command `reach` reports of a solution.
use Rattle.std.specs.Prelude.{◌≡◌, ℕ, List, [], ◌++◌, codes, flat_map, Option, slice_index_or}
use Rattle.cfg_ast.specs.declared.network.Network.{Network}
use Rattle.cfg_ast.specs.declared.classes.DestClass.{DestClass}
use Rattle.cfg_ast.specs.meaning.Classes.{classes_of}
use Rattle.srp_core.specs.declared.route.Route.{Route}
use Rattle.srp_core.specs.Problem.{Problem}
use Rattle.srp_core.specs.Stability.{AreLabels}
use Rattle.solution_check.specs.declared.judgement.Answer.{Answer}
use Rattle.solution_check.specs.declared.judgement.Answer.TheVariants.{Stable, Not}
use Rattle.solution_check.specs.Breaks.{Judges}
use Rattle.route_run.specs.Orders.{IsOrderOf}
use Rattle.answer_kit.specs.Outcome.{Outcome, done, not_stable}
use Rattle.answer_kit.specs.ClassNumbers.{class_at, IsOfClass}
use Rattle.answer_solutions.specs.Checks.{break_reason}
use Rattle.answer_solutions.specs.ClassSolutions.{IsOfClassSolution}

-- the names of routers, a line for each
abbrev pub name_lines : Problem → List ℕ → List ℕ
name_lines problem run = flat_map (λ router. slice_index_or problem.names router [] ++ codes "\n") run

-- the order of the labels, one name on each line
pub record IsOrderTold (problem : Problem) (labels : List (Option Route)) (o : Outcome) : Type 0 where
  pub run : List ℕ
  pub is : IsOrderOf problem labels run
  pub told : o ≡ done (name_lines problem run)

-- the order of stable labels, or the first router that breaks stability, and why
abbrev pub IsToldOf : Problem → List (Option Route) → Answer → Outcome → Type 0
IsToldOf problem labels Stable o = IsOrderTold problem labels o
IsToldOf problem labels (Not router why) o = o ≡ not_stable (break_reason problem router why)

-- labels of the problem are judged, and their order is reported where they are stable
pub record IsReach (problem : Problem) (labels : List (Option Route)) (o : Outcome) : Type 0 where
  pub fitting : AreLabels problem labels
  pub answer : Answer
  pub judged : Judges problem labels answer
  pub told : IsToldOf problem labels answer o

-- what `reach` is to report of a class
abbrev pub IsReachOf : Network → Option (List ℕ) → DestClass → Outcome → Type 0
IsReachOf = IsOfClassSolution IsReach

-- what `reach` is to report of a network and the number of a class
abbrev pub IsReachAnswer : Network → ℕ → Option (List ℕ) → Outcome → Type 0
IsReachAnswer network number second = IsOfClass (class_at (classes_of network) number) number (IsReachOf network second)
