use Rattle.io_kit.proofs.Pieces.{part_longer, part_behind}
use Rattle.all_classes.proofs.frame.put_both.Goals as goal

pub returns-in_err-put_all-clause-part : goal.returns-in_err-put_all-clause-part
returns-in_err-put_all-clause-part g c = part_longer _ _ c.args.a.now c.args.b.now c.put_all.ensures.part

pub returns-clause-part : goal.returns-clause-part
returns-clause-part g c = part_behind _ _ _ c.args.a.now c.args.b.now c.in_ok-put_all.ensures.all c.put_all-2.ensures.part
