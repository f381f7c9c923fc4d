-- What is written for a request: the parts of the classes that it asks, or its refusal.
use Rattle.std.specs.Prelude.{◌≡◌, ℕ, Bool, List, Option, Some, None}
use Rattle.cfg_ast.specs.declared.network.Network.{Network}
use Rattle.cfg_ast.specs.meaning.Classes.{classes_of}
use Rattle.endings.specs.Telling.{Telling, output, refused}
use Rattle.solution_answers.specs.Pairwise.{Pairwise}
use Rattle.solution_answers.specs.Parts.{Part, joined}
use Rattle.ask_words.specs.declared.request.Request.{Request}
use Rattle.ask_names.specs.Selection.{selected, chosen, names_one}
use Rattle.ask_names.specs.declared.selection.Span.{Span}
use Rattle.ask_classes.specs.Tasks.{IsClassPart}
use Rattle.ask_classes.specs.declared.manner.Manner.{Manner}
use Rattle.ask_requests.specs.Faults.{request_fault, reason_of}
use Rattle.ask_requests.specs.declared.fault.Fault.{Fault}

abbrev pub manner_of : Bool → Request → Manner
manner_of shows request = record { one = names_one request.classes; shows = shows }

-- the parts of the classes that are asked, in order
pub record IsReport (shows : Bool) (network : Network) (request : Request) (report : Part) : Type 0 where
  pub span : Span
  pub span_is : selected request.classes (classes_of network) ≡ Some span
  pub parts : List Part
  pub are : Pairwise (IsClassPart (manner_of shows request) network request) (chosen (classes_of network) span) parts
  pub report_is : report ≡ joined parts

-- A report. Labels stand behind a `no` where one class is named.
pub record IsReportTold (network : Network) (request : Request) (o : Telling) : Type 0 where
  pub report : Part
  pub is : IsReport (names_one request.classes) network request report
  pub written : o ≡ output report.all report.bytes

abbrev pub IsAnswered : Option Fault → List ℕ → Network → Request → Telling → Type 0
IsAnswered None word network request o = IsReportTold network request o
IsAnswered (Some fault) word network request o = o ≡ refused (reason_of word fault)

-- what is allowed of a request, with the word that was given for the classes
abbrev pub IsOfRequest : List ℕ → Network → Request → Telling → Type 0
IsOfRequest word network request o = IsAnswered (request_fault network request) word network request o
