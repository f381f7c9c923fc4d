use Rattle.std.proofs.Common.{◌<◌, get_or, arith, refl, ◌∙◌}
use Rattle.std.proofs.Math.ListN.{length-set}
use Rattle.base_kit.specs.declared.act_graph.Edge.{Edge}
use Rattle.refine_partition.proofs.MemberLemmas.{index_more}
use Rattle.refine_partition.proofs.imports.exports_of.Goals as goal

pub loop-edge-preserved : goal.loop-edge-preserved
loop-edge-preserved c =
    let total = c.loop-edge.invariant.total in
    let none : Edge = record { importer = 0; exporter = 0; act = 0; link = 0 } in
    let e : Edge = get_or c.args.edges.now c.loop-edge.edge-index none in
    let known : e.exporter < c.args.count = c.requires c.loop-edge.edge-index none c.loop-edge-test.true in
    record {
      total = length-set _ _ _ ∙ total;
      index = index_more c.args.edges.now c.loop-edge.imports.items c.loop-edge.edge-index e none _ _ c.loop-edge.invariant.index c.loop-edge-test.true refl
          (omega arith) c.index_mut.ensures.value c.in_ok-push.ensures.items;
    }
