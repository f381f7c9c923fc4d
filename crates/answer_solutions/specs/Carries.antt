-- What the commands `fold` and `lift` write: labels carried from the routers to their groups, and back
-- (Beckett, Gupta, Mahajan and Walker, Control Plane Compression, SIGCOMM 2018, section 4).
use Rattle.std.specs.Prelude.{◌≡◌, ℕ, List, Option}
use Rattle.base_kit.specs.Partition.{IsNumbered}
use Rattle.cfg_ast.specs.declared.network.Network.{Network}
use Rattle.cfg_ast.specs.declared.classes.DestClass.{DestClass}
use Rattle.cfg_ast.specs.meaning.Classes.{classes_of}
use Rattle.srp_core.specs.declared.route.Route.{Route}
use Rattle.srp_core.specs.Problem.{Problem, IsProblem}
use Rattle.srp_core.specs.Quotient.{IsCoarsest}
use Rattle.srp_core.specs.Stability.{AreLabels}
use Rattle.srp_build.specs.Built.{IsBuiltFor}
use Rattle.srp_quotient.specs.Groups.{small_of}
use Rattle.solution_check.specs.declared.judgement.Answer.{Answer}
use Rattle.solution_check.specs.declared.judgement.Answer.TheVariants.{Stable, Not}
use Rattle.solution_check.specs.Breaks.{Judges}
use Rattle.solution_lift.specs.Carried.{IsFolding, IsLifting}
use Rattle.solution_text.specs.Printed.{labels_text}
use Rattle.answer_kit.specs.Outcome.{Outcome, done, not_stable}
use Rattle.answer_kit.specs.ClassNumbers.{class_at, IsOfClass}
use Rattle.answer_kit.specs.SecondFiles.{IsOfSolution}
use Rattle.answer_solutions.specs.declared.carry.Way.{Way}
use Rattle.answer_solutions.specs.declared.carry.Way.TheVariants.{Fold, Lift}
use Rattle.answer_solutions.specs.declared.sides.Sides.{Sides}
use Rattle.answer_solutions.specs.Checks.{break_reason}

-- the problem of a class, its coarsest groups in the order of their least members, and the problem of these
pub record AreSides (network : Network) (class : DestClass) (sides : Sides) : Type 0 where
  pub built : IsBuiltFor network class sides.problem
  pub coarsest : IsCoarsest sides.problem sides.groups
  pub count : ℕ
  pub numbered : IsNumbered sides.groups count
  pub small_is : sides.small ≡ small_of sides.problem sides.groups count
  pub small_rules : IsProblem sides.small

-- what is allowed of stable labels, or the first router that breaks stability, and why
abbrev pub IsIfStable : Problem → (Outcome → Type 0) → Answer → Outcome → Type 0
IsIfStable problem IsAllowed Stable o = IsAllowed o
IsIfStable problem IsAllowed (Not router why) o = o ≡ not_stable (break_reason problem router why)

pub record IsOfStable (problem : Problem) (labels : List (Option Route)) (IsAllowed : Outcome → Type 0) (o : Outcome) : Type 0 where
  pub fitting : AreLabels problem labels
  pub answer : Answer
  pub judged : Judges problem labels answer
  pub told : IsIfStable problem IsAllowed answer o

-- the labels of the groups that folding gives
pub record IsFolded (sides : Sides) (labels : List (Option Route)) (o : Outcome) : Type 0 where
  pub lower : List (Option Route)
  pub is : IsFolding sides.problem sides.small sides.groups labels lower
  pub written : o ≡ done (labels_text sides.small.names lower)

-- the labels of the routers that lifting gives
pub record IsLifted (sides : Sides) (lower : List (Option Route)) (o : Outcome) : Type 0 where
  pub labels : List (Option Route)
  pub is : IsLifting sides.problem sides.small sides.groups lower labels
  pub written : o ≡ done (labels_text sides.problem.names labels)

-- the problem from which labels are carried
abbrev pub carried_from : Way → Sides → Problem
carried_from Fold sides = sides.problem
carried_from Lift sides = sides.small

-- the labels of the other problem
abbrev pub IsCarriedBy : Way → Sides → List (Option Route) → Outcome → Type 0
IsCarriedBy Fold = IsFolded
IsCarriedBy Lift = IsLifted

abbrev pub IsCarryOfLabels : Way → Sides → Problem → List (Option Route) → Outcome → Type 0
IsCarryOfLabels way sides problem labels = IsOfStable problem labels (IsCarriedBy way sides labels)

-- what is to be written of a class: the solution has the names of the problem from which labels are carried
pub record IsCarryOf (way : Way) (network : Network) (second : Option (List ℕ)) (class : DestClass) (o : Outcome) : Type 0 where
  pub sides : Sides
  pub are : AreSides network class sides
  pub solution : IsOfSolution (carried_from way sides) second (IsCarryOfLabels way sides (carried_from way sides)) o

-- `fold` carries labels of the routers, and `lift` those of the groups
abbrev pub IsFoldOfLabels : Sides → List (Option Route) → Outcome → Type 0
IsFoldOfLabels sides = IsCarryOfLabels Fold sides sides.problem

abbrev pub IsLiftOfLabels : Sides → List (Option Route) → Outcome → Type 0
IsLiftOfLabels sides = IsCarryOfLabels Lift sides sides.small

abbrev pub IsFoldOf : Network → Option (List ℕ) → DestClass → Outcome → Type 0
IsFoldOf = IsCarryOf Fold

abbrev pub IsLiftOf : Network → Option (List ℕ) → DestClass → Outcome → Type 0
IsLiftOf = IsCarryOf Lift

-- what `fold` and `lift` are to write of a network and the number of a class
abbrev pub IsFoldAnswer : Network → ℕ → Option (List ℕ) → Outcome → Type 0
IsFoldAnswer network number second = IsOfClass (class_at (classes_of network) number) number (IsFoldOf network second)

abbrev pub IsLiftAnswer : Network → ℕ → Option (List ℕ) → Outcome → Type 0
IsLiftAnswer network number second = IsOfClass (class_at (classes_of network) number) number (IsLiftOf network second)
