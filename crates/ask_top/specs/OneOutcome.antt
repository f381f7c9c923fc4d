-- The words allow one outcome over files that are known, except for what is free: the tie that is reported with an answer,
-- the labels behind `no`, and in which order solutions stand and which labels stand for one.
use Rattle.std.specs.Prelude.{◌≡◌, ◌⊎◌, ℕ, Bool, true, false, List, [], ◌∷◌, ◌++◌, length, map, Option, Some, None, IfSome, IsSome}
use Rattle.cfg_ast.specs.declared.classes.DestClass.{DestClass}
use Rattle.cfg_ast.specs.declared.network.Network.{Network}
use Rattle.cfg_ast.specs.meaning.Classes.{classes_of}
use Rattle.cfg_ast.specs.text.TextLines.{TextLine}
use Rattle.endings.specs.Telling.{Telling, output}
use Rattle.network_files.specs.NetworkFiles.{HoldsNetwork}
use Rattle.solution_search.specs.declared.board.Tie.{Tie}
use Rattle.solution_answers.specs.Parts.{Part, joined}
use Rattle.solution_answers.specs.Solutions.{solution_texts}
use Rattle.solution_answers.specs.Verdicts.{answer_line, is_yes}
use Rattle.srp_questions.specs.declared.verdict.Verdict.{Verdict}
use Rattle.srp_questions.specs.declared.verdict.Verdict.TheVariants.{Yes, No, NoSolution}
use Rattle.ask_words.specs.Commands.{command_of, file_of, second_of}
use Rattle.ask_words.specs.Lines.{asking_lines}
use Rattle.ask_words.specs.Tasks.{request_of}
use Rattle.ask_words.specs.declared.request.Command.{Command}
use Rattle.ask_words.specs.declared.request.Command.TheVariants as command
use Rattle.ask_words.specs.declared.request.Request.{Request}
use Rattle.ask_words.specs.declared.request.Task.{Task}
use Rattle.ask_words.specs.declared.request.Task.TheVariants as task
use Rattle.ask_names.specs.Selection.{selected, chosen, names_one}
use Rattle.ask_names.specs.declared.selection.Span.{Span}
use Rattle.ask_classes.specs.Failing.{Loss, Trial, trials_text}
use Rattle.ask_classes.specs.declared.manner.Manner.{Manner}
use Rattle.ask_answers.specs.Questions.{question_line}
use Rattle.ask_answers.specs.Reports.{manner_of}
use Rattle.ask_top.specs.Outcomes.{IsAskOutcome}
use Rattle.ask_top.specs.Reads.{reads_network, reads_questions}

-- the contents of the files that are read are known
pub record AreContentsKnown (words : List (List ℕ)) (contents : List ℕ → Option (List ℕ)) : Type 0 where
  pub first : reads_network (command_of words) ≡ true → IsSome (contents (file_of words))
  pub second : reads_questions (command_of words) ≡ true → IsSome (contents (second_of words))

-- ---- two parts that are written of one class

-- whether labels stand behind the verdict
abbrev pub shows_labels : Bool → Verdict → Bool
shows_labels shows Yes = false
shows_labels shows No = shows
shows_labels shows NoSolution = false

-- One verdict. The tie that is reported is free, and so are labels behind it, where any stand there.
pub record AreAnswersAlike (shows : Bool) (number : ℕ) (first second : Part) : Type 0 where
  pub names : List (List ℕ)
  pub verdict : Verdict
  pub first_tie : Option Tie
  pub second_tie : Option Tie
  pub first_text : List ℕ
  pub second_text : List ℕ
  pub bare : shows_labels shows verdict ≡ false → (first_text ≡ []) × (second_text ≡ [])
  pub first_is : first ≡ record { bytes = answer_line names number verdict first_tie ++ first_text; all = is_yes verdict }
  pub second_is : second ≡ record { bytes = answer_line names number verdict second_tie ++ second_text; all = is_yes verdict }

-- As many solutions. Their texts are free.
pub record AreSolutionsAlike (one : Bool) (number : ℕ) (first second : Part) : Type 0 where
  pub first_texts : List (List ℕ)
  pub second_texts : List (List ℕ)
  pub many : length first_texts ≡ length second_texts
  pub first_is : first ≡ record { bytes = solution_texts one number first_texts; all = true }
  pub second_is : second ≡ record { bytes = solution_texts one number second_texts; all = true }

abbrev pub verdicts_of : List Trial → List Verdict
verdicts_of trials = map (λ (trial : Trial). trial.verdict) trials

-- One verdict, and one without each loss. The ties that are reported are free.
pub record AreFailingsAlike (number : ℕ) (first second : Part) : Type 0 where
  pub names : List (List ℕ)
  pub verdict : Verdict
  pub first_tie : Option Tie
  pub second_tie : Option Tie
  pub losses : List Loss
  pub first_trials : List Trial
  pub second_trials : List Trial
  pub verdicts : verdicts_of first_trials ≡ verdicts_of second_trials
  pub all : first.all ≡ second.all
  pub first_is : first.bytes ≡ answer_line names number verdict first_tie ++ trials_text number losses first_trials
  pub second_is : second.bytes ≡ answer_line names number verdict second_tie ++ trials_text number losses second_trials

-- what a task writes of a class: `count` leaves nothing free
abbrev pub ArePartsAlike : Manner → Task → ℕ → Part → Part → Type 0
ArePartsAlike manner task.Count number first second = first ≡ second
ArePartsAlike manner task.Solutions number first second = AreSolutionsAlike manner.one number first second
ArePartsAlike manner task.Forwards number first second = AreSolutionsAlike manner.one number first second
ArePartsAlike manner (task.Answer asks) number first second = AreAnswersAlike manner.shows number first second
ArePartsAlike manner (task.FailingLinks asks) number first second = AreFailingsAlike number first second
ArePartsAlike manner (task.FailingRouters asks) number first second = AreFailingsAlike number first second

-- ---- two reports

-- of each item two parts that are alike
abbrev pub AreAllAlike : {X : Type 0} → (X → Part → Part → Type 0) → List X → List Part → List Part → Type 0
AreAllAlike AreAlike [] [] [] = Unit {0}
AreAllAlike AreAlike [] [] (second ∷ seconds) = ⊥
AreAllAlike AreAlike [] (first ∷ firsts) seconds = ⊥
AreAllAlike AreAlike (item ∷ items) [] seconds = ⊥
AreAllAlike AreAlike (item ∷ items) (first ∷ firsts) [] = ⊥
AreAllAlike AreAlike (item ∷ items) (first ∷ firsts) (second ∷ seconds) = AreAlike item first second × AreAllAlike AreAlike items firsts seconds

-- parts that are alike, of these items in order
pub record AreJoinedAlike {X : Type 0} (AreAlike : X → Part → Part → Type 0) (items : List X) (first second : Part) : Type 0 where
  pub firsts : List Part
  pub seconds : List Part
  pub alike : AreAllAlike AreAlike items firsts seconds
  pub first_is : first ≡ joined firsts
  pub second_is : second ≡ joined seconds

-- of the classes that are asked, in order
pub record AreReportsAlike (shows : Bool) (network : Network) (request : Request) (first second : Part) : Type 0 where
  pub span : Span
  pub span_is : selected request.classes (classes_of network) ≡ Some span
  pub alike : AreJoinedAlike (λ (numbered : ℕ × DestClass). ArePartsAlike (manner_of shows request) request.task numbered.0) (chosen (classes_of network) span) first second

-- the line of a question, and reports that are alike
pub record AreLinesAlike (network : Network) (line : TextLine) (first second : Part) : Type 0 where
  pub request : Request
  pub asked : request_of line.words ≡ Some request
  pub first_report : Part
  pub second_report : Part
  pub alike : AreReportsAlike false network request first_report second_report
  pub first_is : first ≡ record { bytes = question_line line.number ++ first_report.bytes; all = first_report.all }
  pub second_is : second ≡ record { bytes = question_line line.number ++ second_report.bytes; all = second_report.all }

-- ---- two outcomes

-- the questions of a file, where it is known
abbrev pub AreFilesAlike : Option (List ℕ) → Network → Part → Part → Type 0
AreFilesAlike None network = λ first second. Unit {0}
AreFilesAlike (Some text) network = AreJoinedAlike (AreLinesAlike network) (asking_lines text)

-- a request, or the questions of a file
abbrev pub AreAnsweredAlike : Command → Option (List ℕ) → Network → Part → Part → Type 0
AreAnsweredAlike (command.One request) questions network = AreReportsAlike (names_one request.classes) network request
AreAnsweredAlike command.Questions questions network = AreFilesAlike questions network

-- what is written is alike
pub record AreWrittenAlike (AreAlike : Part → Part → Type 0) (o p : Telling) : Type 0 where
  pub first : Part
  pub second : Part
  pub alike : AreAlike first second
  pub all : first.all ≡ second.all
  pub first_is : o ≡ output first.all first.bytes
  pub second_is : p ≡ output second.all second.bytes

-- the work is done over the network that the first file holds
pub record AreDoneAlike (command : Command) (file questions : Option (List ℕ)) (o p : Telling) : Type 0 where
  pub network : Network
  pub holds : IfSome file (HoldsNetwork network)
  pub written : AreWrittenAlike (AreAnsweredAlike command questions network) o p

abbrev pub AreOutcomesAlike : Option Command → Option (List ℕ) → Option (List ℕ) → Telling → Telling → Type 0
AreOutcomesAlike None file questions o p = o ≡ p
AreOutcomesAlike (Some command) file questions o p = (o ≡ p) ⊎ AreDoneAlike command file questions o p

-- two outcomes that the words allow over files that are known are one, except for what is free
abbrev pub AskOutcomeIsOne : Type 0
AskOutcomeIsOne = (words : List (List ℕ)) (contents : List ℕ → Option (List ℕ)) → AreContentsKnown words contents → (o p : Telling) → IsAskOutcome words contents o
    → IsAskOutcome words contents p → AreOutcomesAlike (command_of words) (contents (file_of words)) (contents (second_of words)) o p

-- they have one ending, and one line
abbrev pub AskEndingIsOne : Type 0
AskEndingIsOne = (words : List (List ℕ)) (contents : List ℕ → Option (List ℕ)) → AreContentsKnown words contents → (o p : Telling) → IsAskOutcome words contents o
    → IsAskOutcome words contents p → (o.ending ≡ p.ending) × (o.err ≡ p.err)

-- of `count` they are equal
abbrev pub AskCountIsOne : Type 0
AskCountIsOne = (words : List (List ℕ)) (contents : List ℕ → Option (List ℕ)) (request : Request) → command_of words ≡ Some (command.One request)
    → request.task ≡ task.Count → AreContentsKnown words contents → (o p : Telling) → IsAskOutcome words contents o → IsAskOutcome words contents p → o ≡ p
