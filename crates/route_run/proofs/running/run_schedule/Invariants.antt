use Rattle.std.proofs.Common.{◌≡◌, take}
use Rattle.srp_core.specs.Problem.{count}
use Rattle.route_run.specs.Activations.{labels_after, no_labels}
use Rattle.route_run.specs.Rests.{IsRunState}
use Rattle.route_run.specs.Schedules.{run_of}
use Rattle.route_run.proofs.running.run_schedule.Given as goal

abbrev pub invariant-loop-activation : goal.invariant-loop-activation
invariant-loop-activation l = record {
  run : l.state.labels ≡ labels_after l.srp (no_labels l.srp) (run_of (count l.srp) (take l.activation-index l.schedule));
  state : IsRunState l.srp l.state;
}
