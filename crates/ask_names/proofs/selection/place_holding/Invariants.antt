use Rattle.std.proofs.Common.{◌≡◌, ◌≤◌}
use Rattle.ask_names.specs.Selection.{place_holding}
use Rattle.ask_names.proofs.selection.place_holding.Given as goal

abbrev pub invariant-loop-place : goal.invariant-loop-place
invariant-loop-place l = record {
  few : l.len ≤ 32;
  same : place_holding l.all 32 l.addr ≡ place_holding l.all l.len l.addr;
}

abbrev pub decreases-loop-place : goal.decreases-loop-place
decreases-loop-place l = l.len
