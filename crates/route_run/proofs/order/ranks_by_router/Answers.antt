use Rattle.route_run.proofs.RankOrder.{ranks_more, short_more}
use Rattle.route_run.proofs.order.ranks_by_router.Goals as goal

pub loop-router-preserved : goal.loop-router-preserved
loop-router-preserved c =
    let labels = c.args.labels.now in
    let router = c.loop-router.router in
    let label = c.index-labels-router.result in
    record {
      ranks = ranks_more labels router c.loop-router.ranks.items c.push.new.self.items label c.size_or_last.result c.loop-router-test.true
          c.index-labels-router.is c.size_or_last.ensures.value c.loop-router.invariant.ranks c.in_ok-push.ensures.items;
      short = short_more labels router label c.loop-router-test.true c.index-labels-router.is c.size_or_last.ensures.short c.loop-router.invariant.short;
    }
