use Rattle.std.proofs.Common.{◌≡◌, ◌≢◌, ℕ, ◌<◌, Some, nat_eq}
use Rattle.std.specs.Prelude.{slice_index}
use Rattle.std.specs.HashMap as map
use Rattle.solution_lift.proofs.sides.sources_of.Given as goal

abbrev pub invariant-loop-router : goal.invariant-loop-router
invariant-loop-router l = (u : ℕ) → u < l.router → slice_index l.numbers u ≢ 0 →
    map.get nat_eq l.sources (slice_index l.numbers u) ≡ Some (slice_index l.sides u)
