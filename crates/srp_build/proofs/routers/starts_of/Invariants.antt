use Rattle.std.proofs.Common.{◌≡◌, ◌++◌, drop}
use Rattle.srp_build.specs.Starts.{starts_from}
use Rattle.srp_build.proofs.routers.starts_of.Given as goal

abbrev pub invariant-loop-place : goal.invariant-loop-place
invariant-loop-place l = l.starts ++ starts_from l.place l.later (drop l.place l.routers) ≡ starts_from 0 l.origins l.routers
