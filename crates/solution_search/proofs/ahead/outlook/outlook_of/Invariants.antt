use Rattle.std.proofs.Common.{ℕ, ◌<◌}
use Rattle.solution_search.specs.Boards.{case_of, state_of}
use Rattle.solution_search.specs.Outlooks.{IsClosedAt}
use Rattle.solution_search.proofs.ahead.outlook.outlook_of.Given as goal

abbrev pub invariant-loop-router : goal.invariant-loop-router
invariant-loop-router l = (u : ℕ) → u < l.router → IsClosedAt l.lookups (case_of (state_of l.board)) l.without l.table.items u
