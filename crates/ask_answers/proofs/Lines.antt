-- The lines of a file of questions, read one after the other.
use Rattle.std.proofs.Common.{rules, All, arith, ◌≡◌, ℕ, suc, ◌+◌, ◌<◌, ◌≤◌, Bool, true, false, List, [], ◌∷◌, ◌++◌, length, map, take, drop, get_or, refl, sym, ap, ◌∙◌, subst, append-nil, append_assoc, Option, Some, None}
use Rattle.std.specs.Prelude.{filter, if◌then◌else◌}
use Rattle.std.specs.Option.{option_map}
use Rattle.std.proofs.Math.Seq.{drop-cons}
use Rattle.std.proofs.lemmas.List.{take_more, map-append, take-append-drop}
use Rattle.std.proofs.lemmas.List.Elements.{All-cons, filter-append}
use Rattle.cfg_ast.specs.declared.line.Line.{Line}
use Rattle.cfg_ast.specs.declared.network.Network.{Network}
use Rattle.cfg_ast.specs.text.Members.{all_lines_of}
use Rattle.cfg_ast.specs.text.TextLines.{TextLine, text_line}
use Rattle.solution_answers.specs.Pairwise.{Pairwise}
use Rattle.solution_answers.proofs.Pairs.{pair_more}
use Rattle.endings.specs.declared.finding.Finding.{Finding}
use Rattle.endings.specs.Findings.{Finds}
use Rattle.endings.specs.Telling.{Telling, output, refused}
use Rattle.endings.proofs.Findings.{finds_as}
use Rattle.solution_answers.specs.Parts.{Part, joined}
use Rattle.solution_answers.specs.Writing.{Writes, WritesEach}
use Rattle.ask_words.specs.Lines.{asks, asking_lines}
use Rattle.ask_words.specs.Tasks.{request_of}
use Rattle.ask_words.specs.declared.request.Request.{Request}
use Rattle.ask_requests.specs.Faults.{request_fault, fault_kind}
use Rattle.ask_answers.specs.Questions.{first_reason, kind_of_request, lines_fault, question_line, IsLineReport, IsOfLines, IsOfQuestions}
use Rattle.ask_answers.specs.Reading.{AreAskedReports, HasSpan, IsAskedLine, IsAskedReport, IsLineFault}
use Rattle.ask_answers.specs.Reports.{IsReport}
use Rattle.ask_answers.specs.declared.reading.AskedLine.{AskedLine}

-- the lines that ask something
abbrev pub asking : List ℕ → List Line → List TextLine
asking text lines = filter asks (map (text_line text) lines)

asking-append : (text : List ℕ) (xs ys : List Line) → asking text (xs ++ ys) ≡ asking text xs ++ asking text ys
asking-append text xs ys = ap (filter asks) (map-append (text_line text) xs ys) ∙ filter-append asks (map (text_line text) xs) (map (text_line text) ys)

one_line : (text : List ℕ) (line : Line) (b : Bool) → asks (text_line text line) ≡ b → asking text (line ∷ []) ≡ (if b then text_line text line ∷ [] else [])
one_line text line b is = ap (λ (asked : Bool). if asked then text_line text line ∷ [] else []) is

-- ---- faults

kind_none : (network : Network) (o : Option Request) (request : Request) → o ≡ Some request → request_fault network request ≡ None →
    kind_of_request network o ≡ None
kind_none network o request is none = ap (kind_of_request network) is ∙ ap (option_map fault_kind) none

sound : (network : Network) (lines : List TextLine) (asked : List AskedLine) → Pairwise (IsAskedLine network) lines asked → lines_fault network lines ≡ None
sound network [] asked are = refl
sound network (line ∷ lines) [] are = absurd are
sound network (line ∷ lines) (one ∷ asked) are =
    ap (λ (kind : Option (List ℕ)). first_reason line.number kind (lines_fault network lines))
    (kind_none network (request_of line.words) one.request are.0.request are.0.sound)
    ∙ sound network lines asked are.1

no_reason : (line : ℕ) (kind : Option (List ℕ)) (later : Option (List ℕ)) → first_reason line kind later ≡ None → (kind ≡ None) × (later ≡ None)
no_reason line None later e = (refl, e)
no_reason line (Some kind) later e = cc

sound_before : (network : Network) (before behind : List TextLine) → lines_fault network before ≡ None →
    lines_fault network (before ++ behind) ≡ lines_fault network behind
sound_before network [] behind e = refl
sound_before network (line ∷ before) behind e =
    let none = no_reason line.number (kind_of_request network (request_of line.words)) (lines_fault network before) e in
    ap (λ (kind : Option (List ℕ)). first_reason line.number kind (lines_fault network (before ++ behind))) none.0
    ∙ sound_before network before behind none.1

-- one line more
module _ (text : List ℕ) (lines : List Line) (i : ℕ) (line : Line) (inside : i < length lines) (is : line ≡ get_or lines i line) where
  next : asking text (take (i + 1) lines) ≡ asking text (take i lines) ++ asking text (line ∷ [])
  next = ap (asking text) (take_more lines i line inside ∙ ap (λ (l : Line). take i lines ++ l ∷ []) (sym is))
      ∙ asking-append text (take i lines) (line ∷ [])

  asked_too : asks (text_line text line) ≡ true → asking text (take (i + 1) lines) ≡ asking text (take i lines) ++ text_line text line ∷ []
  asked_too e = next ∙ ap (λ (ls : List TextLine). asking text (take i lines) ++ ls) (one_line text line true e)

  pub passed : (network : Network) (asked : List AskedLine) → asks (text_line text line) ≡ false →
      Pairwise (IsAskedLine network) (asking text (take i lines)) asked
      → Pairwise (IsAskedLine network) (asking text (take (i + 1) lines)) asked
  passed network asked e are = subst (λ (ls : List TextLine). Pairwise (IsAskedLine network) ls asked)
      (sym (next ∙ ap (λ (ls : List TextLine). asking text (take i lines) ++ ls) (one_line text line false e) ∙ append-nil (asking text (take i lines)))) are

  pub read : (network : Network) (asked : List AskedLine) (one : AskedLine) → asks (text_line text line) ≡ true
      → Pairwise (IsAskedLine network) (asking text (take i lines)) asked → IsAskedLine network (text_line text line) one
      → Pairwise (IsAskedLine network) (asking text (take (i + 1) lines)) (asked ++ one ∷ [])
  read network asked one e are of = subst (λ (ls : List TextLine). Pairwise (IsAskedLine network) ls (asked ++ one ∷ [])) (sym (asked_too e))
      (pair_more (IsAskedLine network) (asking text (take i lines)) asked (text_line text line) one are of)

  pub first_fault : (network : Network) (asked : List AskedLine) (reason : List ℕ) → asks (text_line text line) ≡ true
      → Pairwise (IsAskedLine network) (asking text (take i lines)) asked → IsLineFault network (text_line text line) reason
      → lines_fault network (asking text lines) ≡ Some reason
  first_fault network asked reason e are fault =
      let before = asking text (take i lines) in
      let behind = asking text (drop (suc i) lines) in
      let here = text_line text line in
      ap (λ (ls : List Line). lines_fault network (asking text ls))
      (sym (take-append-drop i lines) ∙ ap (λ (ls : List Line). take i lines ++ ls) (drop-cons lines i line inside
      ∙ ap (λ (l : Line). l ∷ drop (suc i) lines) (sym is)))
      ∙ ap (lines_fault network) (asking-append text (take i lines) (line ∷ drop (suc i) lines))
      ∙ sound_before network before (asking text (line ∷ drop (suc i) lines)) (sound network before asked are)
      ∙ ap (λ (asked : Bool). lines_fault network (if asked then here ∷ behind else behind)) e
      ∙ ap (λ (kind : Option (List ℕ)). first_reason here.number kind (lines_fault network behind)) fault.fault
      ∙ ap (λ (r : List ℕ). Some r) (sym fault.reason_is)

-- ---- reports of lines

pub spans : (network : Network) (lines : List TextLine) (asked : List AskedLine) → Pairwise (IsAskedLine network) lines asked → All (HasSpan network) asked
spans network [] [] are = search rules
spans network [] (one ∷ asked) are = absurd are
spans network (line ∷ lines) [] are = absurd are
spans network (line ∷ lines) (one ∷ asked) are =
    All-cons (HasSpan network) one asked are.0.span (spans network lines asked are.1)

as_line : (network : Network) (line : TextLine) (asked : AskedLine) (part : Part) → IsAskedLine network line asked → IsAskedReport network asked part →
    IsLineReport network line part
as_line network line asked part is report = record {
  request = asked.request;
  asked = is.request;
  report = report.report;
  is = report.is;
  bytes = report.bytes ∙ ap (λ (number : ℕ). question_line number ++ report.report.bytes) is.number;
  all = report.all;
}

as_lines : (network : Network) (lines : List TextLine) (asked : List AskedLine) (parts : List Part) → Pairwise (IsAskedLine network) lines asked
    → Pairwise (IsAskedReport network) asked parts → Pairwise (IsLineReport network) lines parts
as_lines network [] [] parts are reports = reports
as_lines network [] (one ∷ asked) parts are reports = absurd are
as_lines network (line ∷ lines) [] parts are reports = absurd are
as_lines network (line ∷ lines) (one ∷ asked) [] are reports = absurd reports
as_lines network (line ∷ lines) (one ∷ asked) (part ∷ parts) are reports =
    (as_line network line one part are.0 reports.0, as_lines network lines asked parts are.1 reports.1)

-- the file of questions, where no line is at fault
pub all_reported : (network : Network) (text : List ℕ) (asked : List AskedLine) (o : Telling) → Pairwise (IsAskedLine network) (asking_lines text) asked
    → AreAskedReports network asked o → IsOfQuestions network text o
all_reported network text asked o are reports =
    subst (λ (fault : Option (List ℕ)). IsOfLines fault network (asking_lines text) o) (sym (sound network (asking_lines text) asked are))
    (record { parts = reports.parts; are = as_lines network (asking_lines text) asked reports.parts are reports.are; written = reports.written })

-- the file of questions, where a line is
pub all_refused : (network : Network) (text reason : List ℕ) → lines_fault network (asking_lines text) ≡ Some reason →
    IsOfQuestions network text (refused reason)
all_refused network text reason fault =
    subst (λ (fault : Option (List ℕ)). IsOfLines fault network (asking_lines text) (refused reason)) (sym fault) refl

pub lines_reported : (network : Network) (text : List ℕ) (asked : List AskedLine) (finding : Finding) → Pairwise (IsAskedLine network) (asking_lines text) asked
    → Finds finding (AreAskedReports network asked) ⊥ ⊥ → Finds finding (IsOfQuestions network text) ⊥ ⊥
lines_reported network text asked finding are finds = finds_as finding (AreAskedReports network asked) (IsOfQuestions network text) ⊥ ⊥ ⊥ ⊥
    (λ o is. all_reported network text asked o are is) (λ (no : ⊥). no) (λ (no : ⊥). no) finds

pub written_reports : (network : Network) (asked : List AskedLine) (bytes : List ℕ) (all : Bool) → WritesEach (IsAskedReport network) asked [] bytes all
    → AreAskedReports network asked (output all bytes)
written_reports network asked bytes all written = record {
  parts = written.parts;
  are = written.are;
  written = ap (λ (b : Bool). output b bytes) written.all_is ∙ ap (output (joined written.parts).all) written.bytes;
}

-- the lines of the text that ask something
pub whole_text : (text : List ℕ) (lines found : List Line) → lines ≡ found → found ≡ all_lines_of text → asking text lines ≡ asking_lines text
unfolding asking_lines
whole_text text lines found same exact = ap (asking text) (same ∙ exact)

-- the line of a question, and its report behind it
pub line_written : (network : Network) (asked : AskedLine) (old mid new head : List ℕ) (all : Bool) → head ≡ question_line asked.line → mid ≡ old ++ head
    → Writes (IsReport false network asked.request) mid new all → Writes (IsAskedReport network asked) old new all
line_written network asked old mid new head all is begun written = record {
  part = record { bytes = question_line asked.line ++ written.part.bytes; all = written.part.all };
  is = record { report = written.part; is = written.is; bytes = refl; all = refl };
  bytes = written.bytes ∙ ap (λ (t : List ℕ). t ++ written.part.bytes) (begun ∙ ap (λ (h : List ℕ). old ++ h) is)
      ∙ append_assoc old (question_line asked.line) written.part.bytes;
  all_is = written.all_is;
}
