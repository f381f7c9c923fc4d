use Rattle.std.proofs.Common.{◌≡◌, ℕ, ◌<◌, ◌≤◌, All, None}
use Rattle.std.specs.Prelude.{slice_index_or}
use Rattle.base_kit.specs.declared.act_graph.Edge.{Edge}
use Rattle.srp_core.specs.Stability.{label}
use Rattle.solution_search.specs.Boards.{case_of, state_of}
use Rattle.solution_search.specs.Outlooks.{GivesNothing, foreseen_at}
use Rattle.solution_search.proofs.ahead.outlook.nothing_comes.Given as goal

abbrev pub invariant-loop-place : goal.invariant-loop-place
invariant-loop-place l = (k : ℕ) (d : Edge) → l.first ≤ k → k < l.place → label l.board.labels (slice_index_or l.edges k d).exporter ≡ None →
    All (GivesNothing l.lookups (case_of (state_of l.board)) (slice_index_or l.edges k d))
    (foreseen_at l.outlook.table.items (slice_index_or l.edges k d).exporter)
