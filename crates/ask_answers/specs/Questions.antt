-- What is written for a file of questions.
use Rattle.std.specs.Prelude.{◌≡◌, ℕ, Bool, false, List, [], ◌∷◌, ◌++◌, codes, decimal, Option, Some, None}
use Rattle.std.specs.Option.{option_map}
use Rattle.cfg_ast.specs.declared.network.Network.{Network}
use Rattle.cfg_ast.specs.text.TextLines.{TextLine}
use Rattle.endings.specs.Telling.{Telling, output, refused}
use Rattle.solution_answers.specs.Pairwise.{Pairwise}
use Rattle.solution_answers.specs.Parts.{Part, joined}
use Rattle.ask_words.specs.Lines.{asking_lines}
use Rattle.ask_words.specs.Tasks.{request_of}
use Rattle.ask_words.specs.declared.request.Request.{Request}
use Rattle.ask_requests.specs.Faults.{request_fault, fault_kind}
use Rattle.ask_answers.specs.Reports.{IsReport}

-- what is wrong with what a line asks
abbrev pub kind_of_request : Network → Option Request → Option (List ℕ)
kind_of_request network None = Some (codes "BadForm")
kind_of_request network (Some request) = option_map fault_kind (request_fault network request)

abbrev pub questions_reason : ℕ → List ℕ → List ℕ
questions_reason line kind = codes "questions line " ++ (decimal line ++ (codes ": " ++ kind))

abbrev pub first_reason : ℕ → Option (List ℕ) → Option (List ℕ) → Option (List ℕ)
first_reason line None later = later
first_reason line (Some kind) later = Some (questions_reason line kind)

-- the first line at fault, as the reason of a refusal
abbrev pub lines_fault : Network → List TextLine → Option (List ℕ)
lines_fault network [] = None
lines_fault network (line ∷ lines) = first_reason line.number (kind_of_request network (request_of line.words)) (lines_fault network lines)

-- the line of a question
abbrev pub question_line : ℕ → List ℕ
question_line number = codes "question " ++ (decimal number ++ codes "\n")

-- the line of a question, and what its words alone would write, but no labels behind `no`
pub record IsLineReport (network : Network) (line : TextLine) (part : Part) : Type 0 where
  pub request : Request
  pub asked : request_of line.words ≡ Some request
  pub report : Part
  pub is : IsReport false network request report
  pub bytes : part.bytes ≡ question_line line.number ++ report.bytes
  pub all : part.all ≡ report.all

-- the reports of these lines, in order
pub record AreLineReports (network : Network) (lines : List TextLine) (o : Telling) : Type 0 where
  pub parts : List Part
  pub are : Pairwise (IsLineReport network) lines parts
  pub written : o ≡ output (joined parts).all (joined parts).bytes

abbrev pub IsOfLines : Option (List ℕ) → Network → List TextLine → Telling → Type 0
IsOfLines None network lines o = AreLineReports network lines o
IsOfLines (Some reason) network lines o = o ≡ refused reason

-- what is allowed of the text of a file of questions
abbrev pub IsOfQuestions : Network → List ℕ → Telling → Type 0
IsOfQuestions network text o = IsOfLines (lines_fault network (asking_lines text)) network (asking_lines text) o
