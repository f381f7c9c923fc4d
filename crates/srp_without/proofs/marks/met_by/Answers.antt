use Rattle.std.proofs.Common.{◌∙◌}
use Rattle.std.proofs.lemmas.List.{length-set}
use Rattle.srp_without.proofs.Meeting.{met_next}
use Rattle.srp_without.proofs.marks.met_by.Goals as goal

pub loop-edge-preserved : goal.loop-edge-preserved
loop-edge-preserved c = record {
  total = length-set c.loop-edge.met.items _ c.or.result ∙ c.loop-edge.invariant.total;
  met = λ acts of_acts.
      met_next acts c.args.accepted.now c.args.count c.args.edges.now c.loop-edge.edge-index _ c.loop-edge.met.items c.index.result.now c.or.result
      c.loop-edge-test.true c.requires.importers c.requires.acts of_acts c.index.ensures c.or.ensures (c.loop-edge.invariant.met acts of_acts);
}
