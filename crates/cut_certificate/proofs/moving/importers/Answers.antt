use Rattle.std.proofs.Common.{◌<◌, ℕ, Vec, List, get_or, length, subst}
use Rattle.std.specs.declared.alloc.Global.{Global}
use Rattle.std.proofs.lemmas.List.{take_more}
use Rattle.cut_certificate.specs.declared.outgoing.Placed.{Placed}
use Rattle.cut_certificate.specs.Moves.{AreAdded}
use Rattle.cut_certificate.proofs.Staying.{importers_more}
use Rattle.cut_certificate.proofs.moving.importers.Goals as goal

pub loop-exporter-preserved : goal.loop-exporter-preserved
loop-exporter-preserved c =
    let exporter : ℕ = get_or c.args.list.now c.loop-exporter.exporter-index 0 in
    let known : exporter < length c.args.incoming.now = c.requires.known c.loop-exporter.exporter-index 0 c.loop-exporter-test.true in
    let edges : Vec Placed Global = c.index-incoming-exporter.result in
    let added = subst (λ (ps : List Placed). AreAdded c.loop-exporter.found.items c.add_importers.new.found.items ps c.args.act) c.deref.ensures.value
    c.in_ok-add_importers.ensures in
    rw (take_more c.args.list.now c.loop-exporter.exporter-index 0 c.loop-exporter-test.true)
    (importers_more _ _ exporter _ _ _ edges c.loop-exporter.invariant known c.index-incoming-exporter.is added)
