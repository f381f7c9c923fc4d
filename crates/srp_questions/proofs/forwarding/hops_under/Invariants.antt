use Rattle.std.proofs.Common.{◌≡◌, ◌≤◌, ◌<◌, ℕ, [], length}
use Rattle.std.specs.Prelude.{slice_index_or}
use Rattle.std.specs.List.{AllWithin}
use Rattle.srp_questions.specs.NextHops.{AreNextOf}
use Rattle.srp_questions.proofs.forwarding.hops_under.Given as goal

-- the routers before have their lists, and their edges stand before the place
abbrev pub invariant-loop-router : goal.invariant-loop-router
invariant-loop-router l = record {
  inside : l.first ≤ length l.edges;
  passed : AllWithin (λ edge. edge.importer < l.router) l.edges 0 l.first;
  left : AllWithin (λ edge. l.router ≤ edge.importer) l.edges l.first (length l.edges);
  total : length l.hops ≡ l.router;
  each : (u : ℕ) → u < l.router → AreNextOf l.srp l.labels u (slice_index_or l.hops u []);
}
