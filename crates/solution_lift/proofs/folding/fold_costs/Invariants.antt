use Rattle.std.proofs.Common.{◌≡◌, ℕ, ◌<◌, length}
use Rattle.srp_core.specs.Stability.{label}
use Rattle.srp_quotient.specs.Groups.{first_member}
use Rattle.solution_lift.proofs.folding.fold_costs.Given as goal

abbrev pub invariant-loop-group : goal.invariant-loop-group
invariant-loop-group l = record {
  total : length l.lower ≡ l.group;
  costs : (g : ℕ) → g < l.group → label l.lower g ≡ label l.labels (first_member l.p g);
}
