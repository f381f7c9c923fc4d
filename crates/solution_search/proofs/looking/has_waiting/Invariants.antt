use Rattle.solution_search.specs.Boards.{state_of}
use Rattle.solution_search.specs.Looks.{HasNoneOffered}
use Rattle.solution_search.proofs.looking.has_waiting.Given as goal

abbrev pub invariant-loop-router : goal.invariant-loop-router
invariant-loop-router l = HasNoneOffered (state_of l.board) l.router
