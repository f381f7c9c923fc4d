-- The parts of the classes of a request, put together.
use Rattle.std.proofs.Common.{◌≡◌, ℕ, Bool, List, [], refl, sym, ap, ◌∙◌, subst, Option, Some, None}
use Rattle.cfg_ast.specs.declared.network.Network.{Network}
use Rattle.cfg_ast.specs.meaning.Classes.{classes_of}
use Rattle.endings.specs.declared.finding.Finding.{Finding}
use Rattle.endings.specs.Findings.{Finds}
use Rattle.endings.specs.Telling.{Telling, output, refused}
use Rattle.endings.proofs.Findings.{finds_as}
use Rattle.solution_answers.specs.Parts.{joined}
use Rattle.solution_answers.specs.Writing.{Writes, WritesEach}
use Rattle.ask_words.specs.declared.request.Request.{Request}
use Rattle.ask_names.specs.Selection.{selected, chosen, names_one}
use Rattle.ask_names.specs.declared.selection.Span.{Span}
use Rattle.ask_classes.specs.Tasks.{IsClassPart}
use Rattle.ask_requests.specs.Faults.{reason_of, request_fault}
use Rattle.ask_requests.specs.declared.fault.Fault.{Fault}
use Rattle.ask_answers.specs.Reports.{manner_of, IsAnswered, IsOfRequest, IsReport, IsReportTold}

pub report_of : (shows : Bool) (network : Network) (request : Request) (span : Span) (old new : List ℕ) (all : Bool)
    → selected request.classes (classes_of network) ≡ Some span
    → WritesEach (IsClassPart (manner_of shows request) network request) (chosen (classes_of network) span) old new all
    → Writes (IsReport shows network request) old new all
report_of shows network request span old new all is written = record {
  part = joined written.parts;
  is = record { span = span; span_is = is; parts = written.parts; are = written.are; report_is = refl };
  bytes = written.bytes;
  all_is = written.all_is;
}

-- ---- findings

pub reported : (network : Network) (request : Request) (bytes : List ℕ) (all : Bool) →
    Writes (IsReport (names_one request.classes) network request) [] bytes all
    → IsReportTold network request (output all bytes)
reported network request bytes all written = record {
  report = written.part;
  is = written.is;
  written = ap (λ (b : Bool). output b bytes) written.all_is ∙ ap (output written.part.all) written.bytes;
}

pub answered : (word : List ℕ) (network : Network) (request : Request) (finding : Finding) → request_fault network request ≡ None
    → Finds finding (IsReportTold network request) ⊥ ⊥ → Finds finding (IsOfRequest word network request) ⊥ ⊥
answered word network request finding none finds = finds_as finding (IsReportTold network request) (IsOfRequest word network request) ⊥ ⊥ ⊥ ⊥
    (λ o is. subst (λ (fault : Option Fault). IsAnswered fault word network request o) (sym none) is) (λ (no : ⊥). no) (λ (no : ⊥). no) finds

pub refused_as : (word : List ℕ) (network : Network) (request : Request) (finding : Finding) (fault : Fault) → request_fault network request ≡ Some fault
    → Finds finding (λ o. o ≡ refused (reason_of word fault)) ⊥ ⊥ → Finds finding (IsOfRequest word network request) ⊥ ⊥
refused_as word network request finding fault some finds = finds_as finding (λ (o : Telling). o ≡ refused (reason_of word fault))
    (IsOfRequest word network request) ⊥ ⊥ ⊥ ⊥
    (λ o is. subst (λ (fault : Option Fault). IsAnswered fault word network request o) (sym some) is) (λ (no : ⊥). no) (λ (no : ⊥). no) finds
