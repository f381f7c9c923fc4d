use Rattle.std.proofs.Common.{ℕ, ◌≡◌, ◌≤◌, ◌<◌, None}
use Rattle.base_kit.specs.declared.act_graph.Edge.{Edge}
use Rattle.srp_core.specs.Stability.{label}
use Rattle.std.specs.Prelude.{slice_index_or}
use Rattle.solution_search.proofs.lookups.is_sure.Given as goal

abbrev pub invariant-loop-place : goal.invariant-loop-place
invariant-loop-place l = (k : ℕ) (d : Edge) → l.first ≤ k → k < l.place → label l.labels (slice_index_or l.edges k d).exporter ≡ None →
    slice_index_or l.lookups-inside.highest.items (slice_index_or l.edges k d).act 0 ≤ l.preference
