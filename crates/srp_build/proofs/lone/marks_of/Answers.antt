use Rattle.srp_build.proofs.LoneMarks.{first_at, marks_at}
use Rattle.srp_build.proofs.lone.marks_of.Goals as goal

pub next_mark-requires-clause-first_inside : goal.next_mark-requires-clause-first_inside
next_mark-requires-clause-first_inside c =
    first_at c.args.store.now c.args.acts.now c.args.count c.args.edges.now c.loop-edge.edge-index _ c.loop-edge.marks.items _ c.index.result.now
    c.loop-edge-test.true c.requires.importers c.requires.acts c.loop-edge.invariant c.index.ensures

pub loop-edge-preserved : goal.loop-edge-preserved
loop-edge-preserved c =
    marks_at c.args.store.now c.args.acts.now c.args.count c.args.edges.now c.loop-edge.edge-index _ c.loop-edge.marks.items _ c.index.result.now
    c.next_mark.result c.loop-edge-test.true c.requires.importers c.loop-edge.invariant c.index.ensures c.next_mark.ensures
