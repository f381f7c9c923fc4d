use Rattle.std.proofs.Common.{◌≡◌, length}
use Rattle.solution_search.proofs.ahead.growing.nothing_found.Given as goal

abbrev pub invariant-loop-router : goal.invariant-loop-router
invariant-loop-router l = record {
  lists : length l.table.items ≡ l._router;
  marks : length l.is_new.items ≡ l._router;
}
