use Rattle.std.proofs.Common.{get_or}
use Rattle.std.proofs.lemmas.List.{take_more}
use Rattle.cut_certificate.specs.declared.outgoing.Placed.{Placed}
use Rattle.cut_certificate.proofs.Staying.{added_more, added_skip}
use Rattle.cut_certificate.proofs.moving.add_importers.Goals.{then-p-act+in_ok-push, else-p-act}
use Rattle.cut_certificate.proofs.moving.add_importers.Goals as goal

pub loop-p-preserved : goal.loop-p-preserved
loop-p-preserved c =
    let none : Placed = record { place = 0; edge = record { importer = 0; exporter = 0; act = 0; link = 0 } } in
    let p : Placed = get_or c.args.edges.now c.loop-p.p-index none in
    rw (take_more c.args.edges.now c.loop-p.p-index none c.loop-p-test.true) (elim c.if-p-act.branch [
      | then-p-act+in_ok-push w ↦ rw w.found-is (added_more _ _ _ _ p _ c.loop-p.invariant w.in_ok-push.ensures.items)
      | else-p-act w ↦ rw w.found-is (added_skip _ _ _ p _ c.loop-p.invariant w.if-p-act.false)
    ])
