use Rattle.std.proofs.Common.{◌≤◌, ◌+◌}
use Rattle.dd_core.specs.Marks.{IsMarking}
use Rattle.dd_core.proofs.reach.reached.Given as goal

abbrev pub invariant-loop-place : goal.invariant-loop-place
invariant-loop-place l = record {
  below : l.place ≤ l.from + 1;
  marking : IsMarking l.table l.from l.marks.items l.place;
}

abbrev pub decreases-loop-place : goal.decreases-loop-place
decreases-loop-place l = l.place
