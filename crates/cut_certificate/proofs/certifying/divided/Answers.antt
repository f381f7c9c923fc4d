use Rattle.std.proofs.Common.{refl}
use Rattle.cut_certificate.specs.declared.certificate.Split.{Split}
use Rattle.cut_certificate.specs.Blocks.{split_by, blocks_after}
use Rattle.cut_certificate.proofs.Sound.{parting_splits}
use Rattle.cut_certificate.proofs.Movers.{no_outcome}
use Rattle.cut_certificate.proofs.certifying.divided.Goals as goal

pub unreachable-requires : goal.unreachable-requires
unreachable-requires c =
    let edges = c.args.graph.now.edges in
    let blocks = c.args.blocks in
    let split : Split = record { block = c.number_of-block.result; by = c.number_of-by.result; edge = c.args.p.by.place } in
    no_outcome (split_by edges blocks split) blocks c.in_ok-next.next (blocks_after edges blocks split) c.in_ok-next.fault c.in-Some.field-0
    c.in_ok-next.ensures c.in-Some.is
    (parting_splits edges blocks c.args.p split c.count-known.ensures.in_use c.requires.parting
    (record { block = c.number_of-block.ensures; by = c.number_of-by.ensures; edge = refl }))
