use Rattle.std.proofs.Common.{◌≡◌, ◌++◌, drop}
use Rattle.srp_core.specs.Candidates.{candidates, over_edges}
use Rattle.srp_core.proofs.srp.Srp.candidates.Given as goal

abbrev pub invariant-loop-place : goal.invariant-loop-place
invariant-loop-place l = l.found ++ over_edges l.self l.labels l.router l.place (drop l.place l.self.edges) ≡ candidates l.self l.labels l.router
