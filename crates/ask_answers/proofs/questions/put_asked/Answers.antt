use Rattle.std.proofs.Common.{◌++◌, ℕ, List, ap, ◌∙◌, string_bytes}
use Rattle.ask_answers.proofs.Lines.{line_written}
use Rattle.ask_answers.proofs.questions.put_asked.Goals as goal

pub returns-clause-report : goal.returns-clause-report
returns-clause-report c =
    let old = c.args.bytes.now.items in
    line_written c.args.checked.now.network c.args.asked.now old c.put.new.bytes.items c.put_report.new.bytes.items (string_bytes c.in_ok-head.head)
    c.in_ok-all.all c.in_ok-head.ensures (c.in_ok-put.ensures ∙ ap (λ (t : List ℕ). old ++ t) c.as_bytes.ensures.value) c.in_ok-all.ensures.report
