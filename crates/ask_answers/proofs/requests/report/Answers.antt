use Rattle.std.proofs.Common.{[], List, ℕ, Bool, subst, sym}
use Rattle.solution_answers.specs.Writing.{Writes}
use Rattle.ask_answers.specs.Reports.{IsReport}
use Rattle.ask_answers.proofs.Reported.{reported}
use Rattle.ask_answers.proofs.requests.report.Goals as goal

pub returns-in-Ok : goal.returns-in-Ok
returns-in-Ok c =
    let n = c.args.checked.now.network in
    let request = c.args.request.now in
    let bytes = c.put_report.new.bytes.items in
    let all = c.in-Ok.all in
    reported n request bytes all
    (subst (λ (shows : Bool). Writes (IsReport shows n request) [] bytes all) c.names_one-shows.ensures
    (subst (λ (old : List ℕ). Writes (IsReport c.names_one-shows.result n request) old bytes all) c.new-bytes.ensures.items c.in-Ok.ensures.report))
