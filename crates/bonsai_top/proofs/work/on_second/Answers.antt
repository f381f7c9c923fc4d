use Rattle.bonsai_top.proofs.OnCommands.{on_second}
use Rattle.bonsai_top.proofs.work.on_second.Goals as goal

pub returns-in-Check-clause-answers : goal.returns-in-Check-clause-answers
returns-in-Check-clause-answers g c =
    let told = g.S.Source.contents c.args.files.now c.args.second.now in
    on_second _ _ c.in-Check.is c.answer.result c.args.checked.now.network told c.args.class.now _ c.answer.ensures.answers

pub returns-in-Fold-clause-answers : goal.returns-in-Fold-clause-answers
returns-in-Fold-clause-answers g c =
    let told = g.S.Source.contents c.args.files.now c.args.second.now in
    on_second _ _ c.in-Fold.is c.answer-in-Fold.result c.args.checked.now.network told c.args.class.now _ c.answer-in-Fold.ensures.answers

pub returns-in-Lift-clause-answers : goal.returns-in-Lift-clause-answers
returns-in-Lift-clause-answers g c =
    let told = g.S.Source.contents c.args.files.now c.args.second.now in
    on_second _ _ c.in-Lift.is c.answer-in-Lift.result c.args.checked.now.network told c.args.class.now _ c.answer-in-Lift.ensures.answers

pub returns-in-Run-clause-answers : goal.returns-in-Run-clause-answers
returns-in-Run-clause-answers g c =
    let told = g.S.Source.contents c.args.files.now c.args.second.now in
    on_second _ _ c.in-Run.is c.answer-in-Run.result c.args.checked.now.network told c.args.class.now _ c.answer-in-Run.ensures.answers

pub returns-in-Reach-clause-answers : goal.returns-in-Reach-clause-answers
returns-in-Reach-clause-answers g c =
    let told = g.S.Source.contents c.args.files.now c.args.second.now in
    on_second _ _ c.in-Reach.is c.answer-in-Reach.result c.args.checked.now.network told c.args.class.now _ c.answer-in-Reach.ensures.answers

pub returns-in-Verify-clause-answers : goal.returns-in-Verify-clause-answers
returns-in-Verify-clause-answers g c =
    let told = g.S.Source.contents c.args.files.now c.args.second.now in
    on_second _ _ c.in-Verify.is c.answer-in-Verify.result c.args.checked.now.network told c.args.class.now _ c.answer-in-Verify.ensures.answers
