use Rattle.std.proofs.Common.{◌≡◌}
use Rattle.std.specs.List.{range_with_len}
use Rattle.route_run.specs.Activations.{labels_after}
use Rattle.route_run.specs.Rests.{IsRunState}
use Rattle.route_run.proofs.running.run_round.Given as goal

abbrev pub invariant-loop-router : goal.invariant-loop-router
invariant-loop-router l = record {
  run : l.state.labels ≡ labels_after l.runner l.fn.state.labels (range_with_len 0 l.router);
  state : IsRunState l.runner l.state;
}
