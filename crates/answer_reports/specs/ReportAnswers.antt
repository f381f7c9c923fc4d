-- The output of the commands `report` and `json`: what is reported of the plan of a class.
use Rattle.std.specs.Prelude.{◌≡◌, ℕ, List, length}
use Rattle.cfg_ast.specs.declared.network.Network.{Network}
use Rattle.cfg_ast.specs.declared.classes.DestClass.{DestClass}
use Rattle.cfg_ast.specs.meaning.Classes.{classes_of}
use Rattle.cfg_ast.specs.meaning.Topology.{links_of, unmatched_of}
use Rattle.config_emit.specs.Plan.{Plan}
use Rattle.compress_laws.specs.Built.{IsPlanOf}
use Rattle.group_report.specs.Reports.{Report, report_text}
use Rattle.group_report.specs.JsonText.{json_text}
use Rattle.answer_kit.specs.Outcome.{Outcome, done}
use Rattle.answer_kit.specs.ClassNumbers.{class_at, IsOfClass}
use Rattle.answer_reports.specs.declared.report.Form.{Form}
use Rattle.answer_reports.specs.declared.report.Form.TheVariants as form

-- the report of a network on the plan of the class of a number
abbrev pub report_of : Network → ℕ → Plan → Report
report_of network number plan = record {
  class_number = number;
  problem = plan.problem;
  links_before = length (links_of network);
  groups = plan.groups;
  group_count = plan.count;
  links = plan.links;
  unmatched = unmatched_of network;
}

-- the text of a report in a form
abbrev pub text_in : Form → Report → List ℕ
text_in form.Lines = report_text
text_in form.Json = json_text

-- the report of a class, in such a text
pub record IsReported (text : Report → List ℕ) (network : Network) (number : ℕ) (class : DestClass) (o : Outcome) : Type 0 where
  pub plan : Plan
  pub is : IsPlanOf network class plan
  pub written : o ≡ done (text (report_of network number plan))

-- what `report` is to write of a network and the number of a class
abbrev pub IsReportAnswer : Network → ℕ → Outcome → Type 0
IsReportAnswer network number = IsOfClass (class_at (classes_of network) number) number (IsReported report_text network number)

-- what `json` is to write
abbrev pub IsJsonAnswer : Network → ℕ → Outcome → Type 0
IsJsonAnswer network number = IsOfClass (class_at (classes_of network) number) number (IsReported json_text network number)
