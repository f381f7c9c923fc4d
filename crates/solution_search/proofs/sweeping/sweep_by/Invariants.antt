use Rattle.solution_search.specs.Queues.{KeepsQueued}
use Rattle.solution_search.proofs.SweptSoFar.{Kept}
use Rattle.solution_search.proofs.sweeping.sweep_by.Given as goal

abbrev pub invariant-loop-router : goal.invariant-loop-router
invariant-loop-router l = record {
  kept : Kept l.lookups l.outlook.table.items l.initial.board l.board l.swept;
  queued : KeepsQueued l.initial.board l.initial.queue l.board l.queue;
}
