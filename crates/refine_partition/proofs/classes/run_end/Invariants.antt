use Rattle.std.proofs.Common.{◌≡◌, ℕ, ◌<◌, ◌≤◌, ◌-◌, length, slice_index_or}
use Rattle.refine_partition.specs.Arrivals.{act_of_import}
use Rattle.refine_partition.specs.declared.imports.Import.{Import}
use Rattle.refine_partition.proofs.classes.run_end.Given as goal

abbrev pub invariant-loop-end : goal.invariant-loop-end
invariant-loop-end l = record {
  more : l.start < l.end;
  within : l.end ≤ length l.arrivals;
  same : (i : ℕ) (d : Import) → l.start ≤ i → i < l.end → act_of_import (slice_index_or l.arrivals i d) ≡ act_of_import (slice_index_or l.arrivals l.start d);
}

abbrev pub decreases-loop-end : goal.decreases-loop-end
decreases-loop-end l = length l.arrivals - l.end
