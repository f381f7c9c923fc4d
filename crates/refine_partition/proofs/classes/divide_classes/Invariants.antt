use Rattle.std.proofs.Common.{length, ◌-◌, ℕ, ◌<◌, ◌≤◌, take, slice_index_or}
use Rattle.refine_partition.specs.Arrivals.{act_of_import}
use Rattle.refine_partition.specs.Classes.{AreClasses, AreReached}
use Rattle.refine_partition.specs.declared.imports.Import.{Import}
use Rattle.refine_partition.proofs.classes.divide_classes.Given as goal

abbrev pub invariant-loop-start : goal.invariant-loop-start
invariant-loop-start l = record {
  within : l.start ≤ length l.arrivals;
  apart : (i j : ℕ) (d : Import) → i < l.start → l.start ≤ j → j < length l.arrivals →
      act_of_import (slice_index_or l.arrivals i d) < act_of_import (slice_index_or l.arrivals j d);
  classes : AreClasses l.initial.classes.items (take l.start l.arrivals) l.count l.classes.items l.next;
  reached : AreReached l.classes.items l.count l.reached.items;
}

abbrev pub decreases-loop-start : goal.decreases-loop-start
decreases-loop-start l = length l.arrivals - l.start
