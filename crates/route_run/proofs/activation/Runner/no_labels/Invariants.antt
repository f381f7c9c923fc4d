use Rattle.std.proofs.Common.{◌≡◌, replicate, None}
use Rattle.route_run.proofs.activation.Runner.no_labels.Given as goal

abbrev pub invariant-loop-router : goal.invariant-loop-router
invariant-loop-router l = l.labels ≡ replicate l._router None
