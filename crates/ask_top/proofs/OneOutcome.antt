-- The words allow one outcome over files that are known, except for what is free.
use Rattle.std.proofs.Common.{◌≡◌, ◌≤◌, ◌<◌, ◌⊎◌, inl, inr, ℕ, Bool, true, List, [], ◌∷◌, length, refl, sym, ap, ◌∙◌, subst, arith, Option, Some, None, Result, Ok, Err}
use Rattle.std.specs.Prelude.{IfSome, IsSome}
use Rattle.cfg_ast.specs.declared.classes.DestClass.{DestClass}
use Rattle.cfg_ast.specs.declared.network.Network.{Network}
use Rattle.cfg_ast.specs.declared.refusal.ReadRefusal.{ReadRefusal}
use Rattle.cfg_ast.specs.declared.refusal.ReadRefusal.TheVariants as read_refusal
use Rattle.cfg_ast.specs.meaning.Classes.{classes_of}
use Rattle.cfg_ast.specs.text.Reading.{reading_of}
use Rattle.cfg_ast.specs.text.TextLines.{TextLine}
use Rattle.answer_kit.specs.Networks.{text_limit}
use Rattle.endings.specs.Telling.{Telling, ending_of, output}
use Rattle.network_files.specs.NetworkFiles.{HoldsNetwork, IsOfFile, IsOfReading, IsOfText}
use Rattle.solution_answers.specs.Parts.{Part, joined}
use Rattle.ask_words.specs.Commands.{command_of, file_of, class_word_of, second_of}
use Rattle.ask_words.specs.Lines.{asking_lines}
use Rattle.ask_words.specs.declared.request.Command.{Command}
use Rattle.ask_words.specs.declared.request.Command.TheVariants as command
use Rattle.ask_words.specs.declared.request.Request.{Request}
use Rattle.ask_words.specs.declared.request.Task.{Task}
use Rattle.ask_words.specs.declared.request.Task.TheVariants as task
use Rattle.ask_names.specs.Selection.{chosen, names_one}
use Rattle.ask_classes.specs.declared.manner.Manner.{Manner}
use Rattle.ask_requests.specs.Faults.{request_fault}
use Rattle.ask_requests.specs.declared.fault.Fault.{Fault}
use Rattle.ask_answers.specs.Questions.{lines_fault, IsLineReport, IsOfLines, IsOfQuestions}
use Rattle.ask_answers.specs.Reports.{manner_of, IsAnswered, IsOfRequest}
use Rattle.ask_top.specs.OneOutcome.{AreAllAlike, AreAnsweredAlike, AreDoneAlike, AreJoinedAlike, AreLinesAlike, AreOutcomesAlike, ArePartsAlike, AreReportsAlike, AreContentsKnown, AreWrittenAlike, AskCountIsOne, AskEndingIsOne, AskOutcomeIsOne}
use Rattle.ask_top.specs.Outcomes.{questions_limit, IsAskOutcome, IsOfCommand, IsOfQuestionFile, IsOfQuestionText, IsOfWords}
use Rattle.ask_top.specs.Reads.{reads_network, reads_questions}
use Rattle.ask_top.proofs.SameReports.{joined_alike, lines_alike, reports_alike}

-- equal, or written alike
abbrev IsOne : (Part → Part → Type 0) → Telling → Telling → Type 0
IsOne AreAlike o p = (o ≡ p) ⊎ AreWrittenAlike AreAlike o p

-- ---- a request

one_answer : (word : List ℕ) (n : Network) (request : Request) (fault : Option Fault) (o p : Telling) → IsAnswered fault word n request o
    → IsAnswered fault word n request p → IsOne (AreReportsAlike (names_one request.classes) n request) o p
one_answer word n request None o p a b =
    let same = reports_alike (names_one request.classes) n request a.report b.report a.is b.is in
    inr (record { first = a.report; second = b.report; alike = same.0; all = same.1; first_is = a.written; second_is = b.written })
one_answer word n request (Some fault) o p a b = inl (a ∙ sym b)

-- ---- a file of questions

one_of_lines : (n : Network) (lines : List TextLine) (fault : Option (List ℕ)) (o p : Telling) → IsOfLines fault n lines o → IsOfLines fault n lines p
    → IsOne (AreJoinedAlike (AreLinesAlike n) lines) o p
one_of_lines n lines None o p a b =
    let same = joined_alike (IsLineReport n) (AreLinesAlike n) lines a.parts b.parts (joined a.parts) (joined b.parts)
    (λ line at x y. lines_alike n line x y) a.are b.are refl refl in
    inr (record { first = joined a.parts; second = joined b.parts; alike = same.0; all = same.1; first_is = a.written; second_is = b.written })
one_of_lines n lines (Some reason) o p a b = inl (a ∙ sym b)

-- a text is too long, or is not
never_both : (limit size : ℕ) → limit < size → size ≤ limit → ⊥
never_both limit size long short = omega (arith, long, short)

one_of_questions : (n : Network) (text : List ℕ) (o p : Telling) → IsOfQuestionText n text o → IsOfQuestionText n text p
    → IsOne (AreJoinedAlike (AreLinesAlike n) (asking_lines text)) o p
one_of_questions n text o p (inl a) (inl b) = inl (a.1 ∙ sym b.1)
one_of_questions n text o p (inl a) (inr b) = absurd (never_both questions_limit (length text) a.0 b.0)
one_of_questions n text o p (inr a) (inl b) = absurd (never_both questions_limit (length text) b.0 a.0)
one_of_questions n text o p (inr a) (inr b) = one_of_lines n (asking_lines text) (lines_fault n (asking_lines text)) o p a.1 b.1

-- ---- a command over a network

-- a file of questions is known
abbrev IsToldTo : Command → Option (List ℕ) → Type 0
IsToldTo asked questions = reads_questions (Some asked) ≡ true → IsSome questions

one_of_command : (asked : Command) (word : List ℕ) (questions : Option (List ℕ)) → IsToldTo asked questions → (n : Network) (o p : Telling)
    → IsOfCommand asked word questions n o → IsOfCommand asked word questions n p → IsOne (AreAnsweredAlike asked questions n) o p
one_of_command (command.One request) word questions told n o p a b = one_answer word n request (request_fault n request) o p a b
one_of_command command.Questions word None told n o p a b = absurd (let some = told refl in cc)
one_of_command command.Questions word (Some text) told n o p a b = one_of_questions n text o p a b

-- ---- the first file

module _ (asked : Command) (word : List ℕ) (questions : Option (List ℕ)) (told : IsToldTo asked questions) where
  done_alike : (text : List ℕ) (n : Network) (o p : Telling) → HoldsNetwork n text → IsOne (AreAnsweredAlike asked questions n) o p
      → (o ≡ p) ⊎ AreDoneAlike asked (Some text) questions o p
  done_alike text n o p holds (inl same) = inl same
  done_alike text n o p holds (inr written) = inr (record { network = n; holds = holds; written = written })

  one_of_reading : (text : List ℕ) → length text ≤ text_limit → (reading : Result Network ReadRefusal) → reading_of text ≡ reading → (o p : Telling)
      → IsOfReading (IsOfCommand asked word questions) reading o → IsOfReading (IsOfCommand asked word questions) reading p
      → (o ≡ p) ⊎ AreDoneAlike asked (Some text) questions o p
  one_of_reading text short (Ok n) is o p a b =
      done_alike text n o p (record { short = short; reads = is }) (one_of_command asked word questions told n o p a b)
  one_of_reading text short (Err (read_refusal.At line kind)) is o p a b = inl (a ∙ sym b)
  one_of_reading text short (Err read_refusal.Memory) is o p a b = absurd a

  one_of_text : (text : List ℕ) (o p : Telling) → IsOfText (IsOfCommand asked word questions) text o → IsOfText (IsOfCommand asked word questions) text p
      → (o ≡ p) ⊎ AreDoneAlike asked (Some text) questions o p
  one_of_text text o p (inl a) (inl b) = inl (a.1 ∙ sym b.1)
  one_of_text text o p (inl a) (inr b) = absurd (never_both text_limit (length text) a.0 b.0)
  one_of_text text o p (inr a) (inl b) = absurd (never_both text_limit (length text) b.0 a.0)
  one_of_text text o p (inr a) (inr b) = one_of_reading text a.0 (reading_of text) refl o p a.1 b.1

  one_of_file : (file : Option (List ℕ)) → IsSome file → (o p : Telling) → IsOfFile (IsOfCommand asked word questions) file o
      → IsOfFile (IsOfCommand asked word questions) file p → (o ≡ p) ⊎ AreDoneAlike asked file questions o p
  one_of_file None some o p a b = absurd (cc)
  one_of_file (Some text) some o p a b = one_of_text text o p a b

-- ---- words

one_of_words : (asked : Option Command) (word : List ℕ) (file questions : Option (List ℕ)) → (reads_network asked ≡ true → IsSome file)
    → (reads_questions asked ≡ true → IsSome questions) → (o p : Telling) → IsOfWords asked word file questions o
    → IsOfWords asked word file questions p → AreOutcomesAlike asked file questions o p
one_of_words None word file questions first second o p a b = a ∙ sym b
one_of_words (Some asked) word file questions first second o p a b = one_of_file asked word questions second file (first refl) o p a b

pub outcome_is_one : AskOutcomeIsOne
unfolding IsAskOutcome
outcome_is_one words contents told o p a b = one_of_words (command_of words) (class_word_of words) (contents (file_of words)) (contents (second_of words))
    told.first told.second o p a b

one_ending : (asked : Option Command) (file questions : Option (List ℕ)) (o p : Telling) → AreOutcomesAlike asked file questions o p
    → (o.ending ≡ p.ending) × (o.err ≡ p.err)
one_ending None file questions o p same = (ap (λ (t : Telling). t.ending) same, ap (λ (t : Telling). t.err) same)
one_ending (Some asked) file questions o p (inl same) = (ap (λ (t : Telling). t.ending) same, ap (λ (t : Telling). t.err) same)
one_ending (Some asked) file questions o p (inr done) =
    let w = done.written in (
      ap (λ (t : Telling). t.ending) w.first_is ∙ ap ending_of w.all ∙ sym (ap (λ (t : Telling). t.ending) w.second_is),
      ap (λ (t : Telling). t.err) w.first_is ∙ sym (ap (λ (t : Telling). t.err) w.second_is),
    )

pub ending_is_one : AskEndingIsOne
ending_is_one words contents told o p a b = one_ending (command_of words) (contents (file_of words)) (contents (second_of words)) o p
    (outcome_is_one words contents told o p a b)

-- ---- `count`

-- parts of `count` that are equal one by one
equal_parts : (manner : Manner) (items : List (ℕ × DestClass)) (xs ys : List Part)
    → AreAllAlike (λ (numbered : ℕ × DestClass). ArePartsAlike manner task.Count numbered.0) items xs ys → xs ≡ ys
equal_parts manner [] [] [] are = refl
equal_parts manner [] [] (y ∷ ys) are = absurd are
equal_parts manner [] (x ∷ xs) ys are = absurd are
equal_parts manner (item ∷ items) [] ys are = absurd are
equal_parts manner (item ∷ items) (x ∷ xs) [] are = absurd are
equal_parts manner (item ∷ items) (x ∷ xs) (y ∷ ys) are =
    let first : x ≡ y = are.0 in
    let rest = equal_parts manner items xs ys are.1 in
    λ i. first i ∷ rest i

equal_counts : (shows : Bool) (n : Network) (request : Request) (x y : Part) → request.task ≡ task.Count → AreReportsAlike shows n request x y → x ≡ y
equal_counts shows n request x y counts are =
    let parts = are.alike in
    let manner = manner_of shows request in
    let items = chosen (classes_of n) are.span in
    let equal = subst (λ (of : Task). AreAllAlike (λ (numbered : ℕ × DestClass). ArePartsAlike manner of numbered.0) items parts.firsts parts.seconds) counts
    parts.alike in
    parts.first_is ∙ ap joined (equal_parts manner items parts.firsts parts.seconds equal) ∙ sym parts.second_is

one_count : (request : Request) (file questions : Option (List ℕ)) (o p : Telling) → request.task ≡ task.Count
    → AreOutcomesAlike (Some (command.One request)) file questions o p → o ≡ p
one_count request file questions o p counts (inl same) = same
one_count request file questions o p counts (inr done) =
    let w = done.written in
    w.first_is ∙ ap (λ (part : Part). output part.all part.bytes)
    (equal_counts (names_one request.classes) done.network request w.first w.second counts w.alike) ∙ sym w.second_is

pub count_is_one : AskCountIsOne
count_is_one words contents request asks counts told o p a b =
    one_count request (contents (file_of words)) (contents (second_of words)) o p counts
    (subst (λ (asked : Option Command). AreOutcomesAlike asked (contents (file_of words)) (contents (second_of words)) o p) asks
    (outcome_is_one words contents told o p a b))
