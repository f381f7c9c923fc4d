use Rattle.std.proofs.Common.{◌≡◌, ◌++◌, drop}
use Rattle.srp_without.specs.Left.{left_from}
use Rattle.srp_without.proofs.left.starts_left.Given as goal

abbrev pub invariant-loop-place : goal.invariant-loop-place
invariant-loop-place l = l.left ++ left_from (drop l.place l.routers) (drop l.place l.starts) ≡ left_from l.routers l.starts
