use Rattle.std.proofs.Common.{◌≡◌, None, replicate}
use Rattle.solution_search.proofs.start.no_waits.Given as goal

abbrev pub invariant-loop-router : goal.invariant-loop-router
invariant-loop-router l = l.waits.items ≡ replicate l._router None
