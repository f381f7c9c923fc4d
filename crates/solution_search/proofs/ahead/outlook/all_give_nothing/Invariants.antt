use Rattle.std.proofs.Common.{All, take}
use Rattle.solution_search.specs.Boards.{case_of, state_of}
use Rattle.solution_search.specs.Outlooks.{GivesNothing}
use Rattle.solution_search.proofs.ahead.outlook.all_give_nothing.Given as goal

abbrev pub invariant-loop-from : goal.invariant-loop-from
invariant-loop-from l = All (GivesNothing l.lookups (case_of (state_of l.board)) l.edge) (take l.from-index l.list)
