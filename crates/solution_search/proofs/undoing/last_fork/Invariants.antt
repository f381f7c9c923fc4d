use Rattle.std.proofs.Common.{◌≡◌, length}
use Rattle.solution_search.specs.Boards.{Fits, pending_of}
use Rattle.solution_search.proofs.undoing.last_fork.Given as goal

abbrev pub invariant-loop-change : goal.invariant-loop-change
invariant-loop-change l = record {
  fits : Fits (length l.initial.board.labels) l.board;
  tie : l.board.tie ≡ l.initial.board.tie;
  pending : pending_of l.board ≡ pending_of l.initial.board;
}

abbrev pub decreases-loop-change : goal.decreases-loop-change
decreases-loop-change l = length l.board.changes.items
