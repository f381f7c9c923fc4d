use Rattle.std.proofs.Common.{◌∙◌, sym}
use Rattle.specialize.proofs.Known.{one_known}
use Rattle.specialize.proofs.answers.answer_at.Goals as goal

pub returns-in-Some-clause-answer : goal.returns-in-Some-clause-answer
returns-in-Some-clause-answer c = c.requires.each c.args.place c.in-Some.answer (sym c.known_answer.ensures ∙ c.in-Some.is)

pub returns-clause-known : goal.returns-clause-known
returns-clause-known c =
    one_known c.args.router.now c.args.p c.args.known.now c.insert.new.self c.args.place c.list_answer_at-answer.result c.list_answer_at-answer.ensures
    c.in_ok-insert.ensures.updates.0 c.requires
