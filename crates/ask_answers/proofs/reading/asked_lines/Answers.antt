use Rattle.std.proofs.Common.{◌≡◌, ◌+◌, List, ap, sym, ◌∙◌, subst, take, take_all}
use Rattle.std.specs.Prelude.{string_bytes}
use Rattle.cfg_ast.specs.text.TextLines.{TextLine, text_line}
use Rattle.solution_answers.specs.Pairwise.{Pairwise}
use Rattle.ask_answers.specs.Questions.{lines_fault}
use Rattle.ask_answers.specs.Reading.{IsAskedLine, IsReadLine}
use Rattle.ask_answers.specs.declared.reading.AskedLine.{AskedLine}
use Rattle.ask_answers.proofs.Lines.{asking, first_fault, passed, read, whole_text}
use Rattle.ask_answers.proofs.reading.asked_lines.Goals as goal
use Rattle.ask_answers.proofs.reading.asked_lines.Goals.{then-asks+in_ok-one+in-Ok+in_ok-push-in-Ok, else-asks}

pub returns-in-Err : goal.returns-in-Err
returns-in-Err c =
    let text = c.args.text.now in
    let network = c.args.checked.now.network in
    let lines = c.as_slice-lines.result.now in
    let line = c.line-item.result in
    ap (lines_fault network) (sym (whole_text text lines c.in_ok-found.found c.as_slice-lines.ensures c.in_ok-found.ensures.exact))
    ∙ first_fault text lines c.loop-line.line-index line c.loop-line-test.true c.line-item.is network c.loop-line.asked (string_bytes c.in-Err.reason)
    (sym c.asks.ensures ∙ c.if-asks.true) c.loop-line.invariant (subst (IsReadLine network (text_line text line)) c.in-Err.is c.in_ok-one.ensures)

pub loop-line-preserved : goal.loop-line-preserved
loop-line-preserved c =
    let text = c.args.text.now in
    let network = c.args.checked.now.network in
    let lines = c.as_slice-lines.result.now in
    let line = c.line-item.result in
    let i = c.loop-line.line-index in
    elim c.if-asks.branch [
      | then-asks+in_ok-one+in-Ok+in_ok-push-in-Ok w ↦
          subst (λ (a : List AskedLine). Pairwise (IsAskedLine network) (asking text (take (i + 1) lines)) a) (sym (w.asked-is ∙ w.in_ok-push-in-Ok.ensures.ok))
          (read text lines i line c.loop-line-test.true c.line-item.is network c.loop-line.asked w.in-Ok.one (sym c.asks.ensures ∙ w.if-asks.true)
          c.loop-line.invariant (subst (IsReadLine network (text_line text line)) w.in-Ok.is w.in_ok-one.ensures))
      | else-asks w ↦
          subst (λ (a : List AskedLine). Pairwise (IsAskedLine network) (asking text (take (i + 1) lines)) a) (sym w.asked-is)
          (passed text lines i line c.loop-line-test.true c.line-item.is network c.loop-line.asked (sym c.asks.ensures ∙ w.if-asks.false) c.loop-line.invariant)
    ]

pub returns : goal.returns
returns c =
    let text = c.args.text.now in
    let network = c.args.checked.now.network in
    let lines = c.as_slice-lines.result.now in
    subst (λ (ls : List TextLine). Pairwise (IsAskedLine network) ls c.loop-line.asked)
    (ap (asking text) (take_all c.loop-line.line-index lines c.loop-line-test.false)
    ∙ whole_text text lines c.in_ok-found.found c.as_slice-lines.ensures c.in_ok-found.ensures.exact)
    c.loop-line.invariant
