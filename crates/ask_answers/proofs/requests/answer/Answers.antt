use Rattle.ask_answers.proofs.Reported.{answered, refused_as}
use Rattle.ask_answers.proofs.requests.answer.Goals as goal

pub report-requires-clause-span : goal.report-requires-clause-span
report-requires-clause-span c = let is = rw c.in-Ok-Ok.field-0-is at c.in-Ok-Ok.ensures in is.0

pub returns-in-Ok-Ok : goal.returns-in-Ok-Ok
returns-in-Ok-Ok c =
    let is = rw c.in-Ok-Ok.field-0-is at c.in-Ok-Ok.ensures in
    answered c.args.word.now c.args.checked.now.network c.args.request.now c.report.result is.1 c.report.ensures

pub returns-in-Ok-Err : goal.returns-in-Ok-Err
returns-in-Ok-Err c =
    let is = rw c.in-Ok-Err.field-0-is at c.in-Ok-Err.ensures in
    refused_as c.args.word.now c.args.checked.now.network c.args.request.now c.refusal.result c.in-Ok-Err.fault is c.refusal.ensures
