use Rattle.std.proofs.Common.{◌≤◌, ◌<◌, ℕ, length}
use Rattle.std.specs.List.{AllWithin}
use Rattle.solution_check.specs.Breaks.{HoldsBest}
use Rattle.solution_check.proofs.judgement.check.Given as goal

-- the routers before are as they should be, and their edges stand before the place
abbrev pub invariant-loop-router : goal.invariant-loop-router
invariant-loop-router l = record {
  inside : l.first ≤ length l.edges;
  passed : AllWithin (λ edge. edge.importer < l.router) l.edges 0 l.first;
  left : AllWithin (λ edge. l.router ≤ edge.importer) l.edges l.first (length l.edges);
  before : (v : ℕ) → v < l.router → HoldsBest l.srp l.labels v;
}
