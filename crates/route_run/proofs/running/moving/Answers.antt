use Rattle.std.proofs.Common.{arith}
use Rattle.route_run.proofs.AtRest.{keeps_stable}
use Rattle.route_run.proofs.running.moving.Goals as goal

pub returns : goal.returns
returns c = keeps_stable c.args.srp.now c.args.labels.now c.requires
    (λ u h. c.loop-router.invariant u (omega (arith, h, c.loop-router-test.false, c.count-router-end.ensures.count)))
