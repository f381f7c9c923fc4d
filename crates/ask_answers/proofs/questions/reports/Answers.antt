use Rattle.std.proofs.Common.{ℕ, List, subst}
use Rattle.solution_answers.specs.Writing.{WritesEach}
use Rattle.ask_answers.specs.Reading.{IsAskedReport}
use Rattle.ask_answers.proofs.Lines.{written_reports}
use Rattle.ask_answers.proofs.questions.reports.Goals as goal

pub returns-in-Ok : goal.returns-in-Ok
returns-in-Ok c =
    let n = c.args.checked.now.network in
    let asked = c.args.asked.now in
    let bytes = c.put_all_asked.new.bytes.items in
    written_reports n asked bytes c.in-Ok.all
    (subst (λ (old : List ℕ). WritesEach (IsAskedReport n) asked old bytes c.in-Ok.all) c.new-bytes.ensures.items c.in-Ok.ensures)
