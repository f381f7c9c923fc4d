use Rattle.std.proofs.Common.{◌≡◌, ◌++◌, drop}
use Rattle.srp_build.specs.Starts.{none_lone}
use Rattle.srp_build.proofs.routers.none_lone.Given as goal

abbrev pub invariant-loop-router : goal.invariant-loop-router
invariant-loop-router l = l.lone ++ none_lone (drop l._router-index l.routers) ≡ none_lone l.routers
