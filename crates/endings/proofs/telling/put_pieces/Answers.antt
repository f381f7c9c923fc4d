use Rattle.std.proofs.Common.{◌++◌}
use Rattle.io_kit.proofs.Pieces.{part_longer, part_behind, took_both}
use Rattle.endings.proofs.telling.put_pieces.Goals as goal

pub returns-in_err-put_all-clause-part : goal.returns-in_err-put_all-clause-part
returns-in_err-put_all-clause-part g c = part_longer _ _ (c.args.a.now ++ c.args.b.now) c.args.c.now
    (part_longer _ _ c.args.a.now c.args.b.now c.put_all.ensures.part)

pub returns-in_err-put_all-2-clause-part : goal.returns-in_err-put_all-2-clause-part
returns-in_err-put_all-2-clause-part g c =
    part_longer _ _ (c.args.a.now ++ c.args.b.now) c.args.c.now
    (part_behind _ _ _ c.args.a.now c.args.b.now c.in_ok-put_all.ensures.all c.put_all-2.ensures.part)

pub returns-clause-part : goal.returns-clause-part
returns-clause-part g c =
    part_behind _ _ _ (c.args.a.now ++ c.args.b.now) c.args.c.now
    (took_both _ _ _ c.args.a.now c.args.b.now c.in_ok-put_all.ensures.all c.in_ok-put_all-2.ensures.all) c.put_all-3.ensures.part
