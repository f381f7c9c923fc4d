use Rattle.abstract_net.proofs.RunLinks.{at_end, one_more}
use Rattle.abstract_net.proofs.runs.links_of.Goals as goal

pub loop-start-preserved : goal.loop-start-preserved
loop-start-preserved c =
    let ends = c.run_end-end.ensures in
    record {
      within = ends.within;
      so_far = one_more c.args.steps.now c.loop-start.start c.run_end-end.result
          (record { more = ends.more; within = ends.within; one_kind = ends.same; after = ends.after }) c.loop-start.links _ _
          c.loop-start.invariant.so_far c.in_ok-push_run.ensures;
    }

pub returns : goal.returns
returns c = at_end c.args.steps.now c.loop-start.links _ c.loop-start.start c.loop-start-test.false c.loop-start.invariant.so_far
