use Rattle.std.proofs.Common.{Some}
use Rattle.cfg_ast.specs.declared.network.Network.{Network}
use Rattle.cfg_ast.specs.text.Reading.{reading_of}
use Rattle.bonsai_top.specs.Commands.{SecondRose}
use Rattle.bonsai_top.specs.Faults.{LeadsToSecond, ReadsSecondOf}
use Rattle.bonsai_top.specs.Outcomes.{IsAnswerTo, IsOutcomeOfReading}
use Rattle.answer_kit.specs.Outcome.{Outcome}
use Rattle.answer_kit.proofs.Networks.{answers_read, answers_not_read}
use Rattle.answer_kit.proofs.Replies.{answers_as}
use Rattle.bonsai_top.proofs.work.over_text.Goals as goal

pub returns-in-Ok-clause-answers : goal.returns-in-Ok-clause-answers
returns-in-Ok-clause-answers g c =
    let command = c.args.command in
    let second = c.args.second.now in
    let text = c.args.text.now in
    let network = c.in-Ok.checked.network in
    let told = g.S.Source.contents c.args.files.now second in
    let rose = SecondRose (Some command) (g.S.Source.faults c.args.files.now second) (g.S.Source.faults c.answer.new.files second) in
    let read = answers_read c.answer.result (reading_of text) network (λ (n : Network) (o : Outcome). IsAnswerTo command n told o) ⊥
    (rose × ReadsSecondOf command network) c.in-Ok.ensures.read c.answer.ensures.answers in
    answers_as c.answer.result (IsOutcomeOfReading command told (reading_of text)) (IsOutcomeOfReading command told (reading_of text)) ⊥ ⊥
    (rose × ReadsSecondOf command network) (rose × LeadsToSecond command text) (λ o is. is) (λ e. e)
    (λ r. (r.0, record { short = c.requires; network = network; reads = c.in-Ok.ensures.read; second = r.1 })) read

pub returns-in-Err-clause-answers : goal.returns-in-Err-clause-answers
returns-in-Err-clause-answers g c =
    let command = c.args.command in
    let second = c.args.second.now in
    let told = g.S.Source.contents c.args.files.now second in
    let faults = g.S.Source.faults c.args.files.now second in
    answers_not_read c.in-Err.reply (reading_of c.args.text.now) (λ (n : Network) (o : Outcome). IsAnswerTo command n told o) ⊥
    (SecondRose (Some command) faults faults × LeadsToSecond command c.args.text.now) c.in-Err.ensures.none
