use Rattle.std.proofs.Common.{◌≡◌, true, drop}
use Rattle.base_kit.specs.Sets.{has}
use Rattle.dd_core.proofs.variables.place_of.Given as goal

abbrev pub invariant-loop-place : goal.invariant-loop-place
invariant-loop-place l = has (drop l.place l.universe) l.community ≡ true
