use Rattle.std.proofs.Common.{◌≡◌, ◌<◌, ◌≤◌, ℕ, length, slice_get, Some}
use Rattle.std.specs.Prelude.{slice_index}
use Rattle.srp_core.specs.Starts.{start}
use Rattle.srp_core.proofs.graph.colors.Given as goal

abbrev pub invariant-loop-router : goal.invariant-loop-router
invariant-loop-router l = record {
  colored : length l.colors.items ≡ l.router;
  few : length l.starts ≤ l.router;
  placed : (u : ℕ) → u < l.router → slice_get l.starts (slice_index l.colors.items u) ≡ Some (start l.srp u);
}
