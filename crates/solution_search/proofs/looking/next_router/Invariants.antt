use Rattle.std.proofs.Common.{length}
use Rattle.solution_search.specs.Boards.{state_of}
use Rattle.solution_search.specs.Queues.{IsQueued}
use Rattle.solution_search.proofs.looking.next_router.Given as goal

abbrev pub invariant-loop-size : goal.invariant-loop-size
invariant-loop-size l = IsQueued (state_of l.board) l.queue

abbrev pub decreases-loop-size : goal.decreases-loop-size
decreases-loop-size l = length l.queue
