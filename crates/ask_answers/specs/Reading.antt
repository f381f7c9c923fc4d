-- What the lines of a file of questions are read as.
use Rattle.std.specs.Prelude.{◌≡◌, ℕ, Bool, false, List, ◌++◌, Option, Some, None, Result, Ok, Err, String, string_bytes}
use Rattle.std.specs.declared.alloc.Global.{Global}
use Rattle.cfg_ast.specs.declared.network.Network.{Network}
use Rattle.cfg_ast.specs.meaning.Classes.{classes_of}
use Rattle.cfg_ast.specs.text.TextLines.{TextLine}
use Rattle.endings.specs.Telling.{Telling, output}
use Rattle.solution_answers.specs.Pairwise.{Pairwise}
use Rattle.solution_answers.specs.Parts.{Part, joined}
use Rattle.ask_words.specs.Tasks.{request_of}
use Rattle.ask_names.specs.Selection.{selected}
use Rattle.ask_requests.specs.Faults.{request_fault}
use Rattle.ask_answers.specs.Questions.{kind_of_request, lines_fault, question_line, questions_reason}
use Rattle.ask_answers.specs.Reports.{IsReport}
use Rattle.ask_answers.specs.declared.reading.AskedLine.{AskedLine}

-- the line's number, what its words ask, in which nothing is at fault, and the places of the classes
pub record IsAskedLine (network : Network) (line : TextLine) (asked : AskedLine) : Type 0 where
  pub number : asked.line ≡ line.number
  pub request : request_of line.words ≡ Some asked.request
  pub sound : request_fault network asked.request ≡ None
  pub span : selected asked.request.classes (classes_of network) ≡ Some asked.span

-- the line is at fault, and this is the reason
pub record IsLineFault (network : Network) (line : TextLine) (reason : List ℕ) : Type 0 where
  pub kind : List ℕ
  pub fault : kind_of_request network (request_of line.words) ≡ Some kind
  pub reason_is : reason ≡ questions_reason line.number kind

-- what a line asks, or its fault
abbrev pub IsReadLine : Network → TextLine → Result AskedLine (String Global) → Type 0
IsReadLine network line (Ok asked) = IsAskedLine network line asked
IsReadLine network line (Err reason) = IsLineFault network line (string_bytes reason)

-- what each of the lines asks, or the first fault
abbrev pub AreReadLines : Network → List TextLine → Result (List AskedLine) (String Global) → Type 0
AreReadLines network lines (Ok asked) = Pairwise (IsAskedLine network) lines asked
AreReadLines network lines (Err reason) = lines_fault network lines ≡ Some (string_bytes reason)

-- the places are those of the classes that the line asks
abbrev pub HasSpan : Network → AskedLine → Type 0
HasSpan network asked = selected asked.request.classes (classes_of network) ≡ Some asked.span

-- the line of a question that was read, and its report
pub record IsAskedReport (network : Network) (asked : AskedLine) (part : Part) : Type 0 where
  pub report : Part
  pub is : IsReport false network asked.request report
  pub bytes : part.bytes ≡ question_line asked.line ++ report.bytes
  pub all : part.all ≡ report.all

-- the reports of these lines, in order
pub record AreAskedReports (network : Network) (asked : List AskedLine) (o : Telling) : Type 0 where
  pub parts : List Part
  pub are : Pairwise (IsAskedReport network) asked parts
  pub written : o ≡ output (joined parts).all (joined parts).bytes
