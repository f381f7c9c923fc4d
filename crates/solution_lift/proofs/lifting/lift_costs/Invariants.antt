use Rattle.std.proofs.Common.{◌≡◌, ℕ, ◌<◌, length}
use Rattle.srp_core.specs.Quotient.{group_of}
use Rattle.srp_core.specs.Stability.{label}
use Rattle.solution_lift.proofs.lifting.lift_costs.Given as goal

abbrev pub invariant-loop-router : goal.invariant-loop-router
invariant-loop-router l = record {
  total : length l.upper ≡ l.router;
  costs : (u : ℕ) → u < l.router → label l.upper u ≡ label l.labels (group_of l.p u);
}
