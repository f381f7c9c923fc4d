-- The output of the command `summary`: the line of the counts of each class.
use Rattle.std.specs.Prelude.{◌≡◌, ℕ, List, [], ◌∷◌, ◌++◌, flat_map}
use Rattle.std.specs.List.{enumerate_from}
use Rattle.cfg_ast.specs.declared.network.Network.{Network}
use Rattle.cfg_ast.specs.declared.classes.DestClass.{DestClass}
use Rattle.cfg_ast.specs.meaning.Classes.{classes_of}
use Rattle.config_emit.specs.Plan.{Plan}
use Rattle.compress_laws.specs.Built.{IsPlanOf}
use Rattle.group_report.specs.Reports.{count_line_of}
use Rattle.answer_kit.specs.Outcome.{Outcome, done}
use Rattle.answer_reports.specs.ReportAnswers.{report_of}

-- the plans of these classes, in order
abbrev pub ArePlansOf : Network → List DestClass → List Plan → Type 0
ArePlansOf network [] [] = Unit {0}
ArePlansOf network [] (plan ∷ plans) = ⊥
ArePlansOf network (class ∷ classes) [] = ⊥
ArePlansOf network (class ∷ classes) (plan ∷ plans) = IsPlanOf network class plan × ArePlansOf network classes plans

-- the line of the counts of a class with its number
abbrev pub summary_line : Network → ℕ × Plan → List ℕ
summary_line network (number, plan) = count_line_of (report_of network number plan)

-- the lines of these plans, of which the first has that number
abbrev pub summary_lines : Network → ℕ → List Plan → List ℕ
summary_lines network number plans = flat_map (summary_line network) (enumerate_from number plans)

-- the lines of these classes, of which the first has that number
pub record AreSummaryLines (network : Network) (number : ℕ) (classes : List DestClass) (bytes : List ℕ) : Type 0 where
  pub plans : List Plan
  pub are : ArePlansOf network classes plans
  pub lines : bytes ≡ summary_lines network number plans

-- what `summary` is to write of a network
pub record IsSummaryAnswer (network : Network) (o : Outcome) : Type 0 where
  pub bytes : List ℕ
  pub lines : AreSummaryLines network 1 (classes_of network) bytes
  pub written : o ≡ done bytes

-- what is written last is the line of the counts of the class of this number
pub record HasLineOf (network : Network) (number : ℕ) (class : DestClass) (old new : List ℕ) : Type 0 where
  pub plan : Plan
  pub is : IsPlanOf network class plan
  pub line : new ≡ old ++ summary_line network (number, plan)
