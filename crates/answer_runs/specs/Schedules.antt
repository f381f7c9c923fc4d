-- What the command `run` reports of a schedule.
use Rattle.std.specs.Prelude.{◌≡◌, ℕ, List, [], ◌++◌, codes, decimal, Option, Some, None, slice_index_or, Result, Ok, Err}
use Rattle.cfg_ast.specs.declared.network.Network.{Network}
use Rattle.cfg_ast.specs.declared.classes.DestClass.{DestClass}
use Rattle.cfg_ast.specs.meaning.Classes.{classes_of}
use Rattle.srp_core.specs.declared.route.Route.{Route}
use Rattle.srp_core.specs.Problem.{Problem, count}
use Rattle.srp_core.specs.Stability.{IsStable}
use Rattle.solution_text.specs.Printed.{labels_text}
use Rattle.route_run.specs.declared.schedule.Activation.{Activation}
use Rattle.route_run.specs.declared.schedule.ScheduleRefusal.{ScheduleRefusal}
use Rattle.route_run.specs.declared.schedule.ScheduleRefusal.TheVariants as schedule_refusal
use Rattle.route_run.specs.Activations.{labels_after, no_labels, IsFirstMoving}
use Rattle.route_run.specs.Schedules.{run_of, schedule_of_text}
use Rattle.answer_kit.specs.Outcome.{Outcome, done, refused}
use Rattle.answer_kit.specs.ClassNumbers.{class_at, IsOfClass}
use Rattle.answer_kit.specs.Groups.{IsProblemOfClass}
use Rattle.answer_kit.specs.SecondFiles.{IsOfSecond}

-- a schedule has at most this many bytes
abbrev pub schedule_limit : ℕ
schedule_limit = 16777216

abbrev pub long_schedule : List ℕ
long_schedule = codes "schedule FileTooLong"

-- a line of a schedule as the reason of a refusal
abbrev pub schedule_reason : ℕ → List ℕ
schedule_reason line = codes "schedule line " ++ decimal line ++ codes ": UnknownRouter"

-- labels are stable, or the router is the first whose activation changes its label
abbrev pub IsMoving : Problem → List (Option Route) → Option ℕ → Type 0
IsMoving problem labels None = IsStable problem labels
IsMoving problem labels (Some router) = IsFirstMoving problem labels router

-- whether labels are at rest, in a line
abbrev pub rest_line : Problem → Option ℕ → List ℕ
rest_line problem None = codes "rest\n"
rest_line problem (Some router) = codes "moving " ++ slice_index_or problem.names router [] ++ codes "\n"

-- the line, and the labels behind it
pub record IsRest (problem : Problem) (labels : List (Option Route)) (o : Outcome) : Type 0 where
  pub moving : Option ℕ
  pub is : IsMoving problem labels moving
  pub told : o ≡ done (rest_line problem moving ++ labels_text problem.names labels)

-- the labels after the schedule are reported, or its refusal
abbrev pub IsOfActivations : Problem → Result (List Activation) ScheduleRefusal → Outcome → Type 0
IsOfActivations problem (Ok schedule) o = IsRest problem (labels_after problem (no_labels problem) (run_of (count problem) schedule)) o
IsOfActivations problem (Err (schedule_refusal.UnknownRouter line)) o = o ≡ refused (schedule_reason line)
IsOfActivations problem (Err schedule_refusal.Memory) o = ⊥

abbrev pub IsOfSchedule : Problem → List ℕ → Outcome → Type 0
IsOfSchedule problem text o = IsOfActivations problem (schedule_of_text problem.names text) o

-- what `run` is to report of a class
pub record IsRunOf (network : Network) (second : Option (List ℕ)) (class : DestClass) (o : Outcome) : Type 0 where
  pub problem : Problem
  pub of_class : IsProblemOfClass network class problem
  pub ran : IsOfSecond schedule_limit long_schedule second (IsOfSchedule problem) o

-- what `run` is to report of a network and the number of a class
abbrev pub IsRunAnswer : Network → ℕ → Option (List ℕ) → Outcome → Type 0
IsRunAnswer network number second = IsOfClass (class_at (classes_of network) number) number (IsRunOf network second)
