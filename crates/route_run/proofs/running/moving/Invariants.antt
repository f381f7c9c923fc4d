use Rattle.std.proofs.Common.{◌≡◌, ◌<◌, ℕ}
use Rattle.srp_core.specs.Stability.{label}
use Rattle.route_run.specs.Activations.{chosen_label}
use Rattle.route_run.proofs.running.moving.Given as goal

-- no router before moves
abbrev pub invariant-loop-router : goal.invariant-loop-router
invariant-loop-router l = (v : ℕ) → v < l.router → chosen_label l.srp l.labels v ≡ label l.labels v
