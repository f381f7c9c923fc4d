use Rattle.std.proofs.Common.{All, List, ap, sym, subst, Vec, ℕ, Global}
use Rattle.endings.specs.Findings.{Finds}
use Rattle.endings.specs.Telling.{refused}
use Rattle.ask_words.specs.Lines.{asking_lines}
use Rattle.ask_answers.specs.Questions.{IsOfQuestions}
use Rattle.ask_answers.specs.Reading.{AreAskedReports, HasSpan}
use Rattle.ask_answers.specs.declared.reading.AskedLine.{AskedLine}
use Rattle.ask_answers.proofs.Lines.{all_refused, lines_reported, spans}
use Rattle.ask_answers.proofs.questions.answers.Goals as goal

pub reports-requires-clause-spans : goal.reports-requires-clause-spans
reports-requires-clause-spans c =
    let n = c.args.checked.now.network in
    let are = rw c.in-Ok-Ok.field-0-is at c.in-Ok-Ok.ensures in
    subst (λ (asked : List AskedLine). All (HasSpan n) asked) (sym c.as_slice.ensures) (spans n (asking_lines c.args.text.now) c.in-Ok-Ok.asked are)

pub returns-in-Ok-Ok : goal.returns-in-Ok-Ok
returns-in-Ok-Ok c =
    let n = c.args.checked.now.network in
    let are = rw c.in-Ok-Ok.field-0-is at c.in-Ok-Ok.ensures in
    lines_reported n c.args.text.now c.in-Ok-Ok.asked c.reports.result are
    (subst (λ (asked : List AskedLine). Finds c.reports.result (AreAskedReports n asked) ⊥ ⊥) c.as_slice.ensures c.reports.ensures)

pub returns-in-Ok-Err : goal.returns-in-Ok-Err
returns-in-Ok-Err c =
    let n = c.args.checked.now.network in
    let text = c.args.text.now in
    let fault = rw c.in-Ok-Err.field-0-is at c.in-Ok-Err.ensures in
    subst (λ (bytes : List ℕ). IsOfQuestions n text (refused bytes)) (sym (ap (λ (v : Vec ℕ Global). v.items) c.into_bytes.ensures.value))
    (all_refused n text _ fault)
