use Rattle.route_run.proofs.Runs.{after_next}
use Rattle.route_run.proofs.running.run_round.Goals as goal

pub loop-router-preserved : goal.loop-router-preserved
loop-router-preserved c = record {
  run = after_next c.args.runner.now c.args.state.now.labels c.loop-router.state.labels c.activate_once.new.state.labels c.loop-router.router
      c.loop-router.invariant.run c.in_ok-activate_once.ensures.labels;
  state = c.in_ok-activate_once.ensures.state;
}
