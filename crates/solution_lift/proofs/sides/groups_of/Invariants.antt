use Rattle.std.proofs.Common.{◌≡◌, take}
use Rattle.solution_lift.proofs.sides.groups_of.Given as goal

abbrev pub invariant-loop-router : goal.invariant-loop-router
invariant-loop-router l = l.groups.items ≡ take l.router l.p
