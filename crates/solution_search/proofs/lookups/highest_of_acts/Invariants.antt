use Rattle.std.proofs.Common.{◌≡◌, ℕ, ◌<◌, length}
use Rattle.std.specs.Prelude.{slice_index_or}
use Rattle.srp_core.specs.declared.route.Act.TheVariants.{Cost}
use Rattle.solution_search.specs.Lookups.{IsHighest}
use Rattle.solution_search.proofs.lookups.highest_of_acts.Given as goal

abbrev pub invariant-loop-act : goal.invariant-loop-act
invariant-loop-act l = record {
  total : length l.highest.items ≡ l.act-index;
  each : (i : ℕ) → i < l.act-index → IsHighest (slice_index_or l.acts i (Cost 0)) (slice_index_or l.highest.items i 0);
}
