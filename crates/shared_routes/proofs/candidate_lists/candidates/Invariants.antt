use Rattle.std.proofs.Common.{◌≡◌, ◌++◌, drop}
use Rattle.srp_core.specs.Candidates.{candidates, over_edges}
use Rattle.shared_routes.proofs.candidate_lists.candidates.Given as goal

abbrev pub invariant-loop-place : goal.invariant-loop-place
invariant-loop-place l = l.found.items ++ over_edges l.srp l.labels l.router l.place (drop l.place l.srp.edges) ≡ candidates l.srp l.labels l.router
