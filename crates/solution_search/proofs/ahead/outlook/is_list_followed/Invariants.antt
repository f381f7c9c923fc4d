use Rattle.std.proofs.Common.{All, take}
use Rattle.solution_search.specs.Boards.{case_of, state_of}
use Rattle.solution_search.specs.Outlooks.{IsFollowed}
use Rattle.solution_search.proofs.ahead.outlook.is_list_followed.Given as goal

abbrev pub invariant-loop-from : goal.invariant-loop-from
invariant-loop-from l = All (IsFollowed l.lookups (case_of (state_of l.board)) l.without l.table l.router) (take l.from-index l.from-items)
