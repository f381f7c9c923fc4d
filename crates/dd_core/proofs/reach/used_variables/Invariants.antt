use Rattle.std.proofs.Common.{length}
use Rattle.dd_core.specs.Marks.{AreUsedBefore}
use Rattle.dd_core.proofs.reach.used_variables.Given as goal

abbrev pub invariant-loop-place : goal.invariant-loop-place
invariant-loop-place l = AreUsedBefore l.table l.from (length l.universe) l.marked-items l.used.items l.place
