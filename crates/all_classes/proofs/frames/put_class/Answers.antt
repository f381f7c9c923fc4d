use Rattle.all_classes.specs.Tellings.{IsAnswer}
use Rattle.all_classes.proofs.Framed.{put_one, part_one}
use Rattle.all_classes.proofs.frames.put_class.Goals as goal

pub returns-in-Ok-put_frame-clause-put : goal.returns-in-Ok-put_frame-clause-put
returns-in-Ok-put_frame-clause-put g c =
    put_one (IsAnswer c.args.command c.args.checked.now.network) c.args.number c.answer-reply.result c.in-Ok.frame _ _ c.in-Ok.ensures
    c.answer-reply.ensures.answers c.in-Ok-put_frame.ensures.all

pub returns-in-Ok-clause-failed : goal.returns-in-Ok-clause-failed
returns-in-Ok-clause-failed g c = λ is.
    part_one (IsAnswer c.args.command c.args.checked.now.network) c.args.number c.answer-reply.result c.in-Ok.frame _ _ c.in-Ok.ensures
    c.answer-reply.ensures.answers c.put_frame.ensures.part
