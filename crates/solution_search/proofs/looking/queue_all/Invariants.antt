use Rattle.solution_search.specs.Boards.{state_of}
use Rattle.solution_search.proofs.Queued.{IsQueuedUpto}
use Rattle.solution_search.proofs.looking.queue_all.Given as goal

abbrev pub invariant-loop-router : goal.invariant-loop-router
invariant-loop-router l = IsQueuedUpto (state_of l.board) l.queue l.router
