use Rattle.std.proofs.Common.{◌≡◌, ◌≤◌, length, drop}
use Rattle.srp_core.specs.Routes.{chosen}
use Rattle.srp_core.specs.Problem.{is_lone_number}
use Rattle.srp_core.specs.LoneOrder.{rest_above, head_of}
use Rattle.srp_core.proofs.srp.Srp.next_lone.Given as goal

abbrev pub invariant-loop-i : goal.invariant-loop-i
invariant-loop-i l = (l.i ≤ length l.path) × (l.best ≡ head_of (rest_above l.bound (chosen (is_lone_number l.self) (drop l.i l.path))))

abbrev pub decreases-loop-i : goal.decreases-loop-i
decreases-loop-i l = l.i
