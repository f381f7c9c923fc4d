use Rattle.std.proofs.Common.{◌-◌, length}
use Rattle.refine_partition.proofs.StayingLemmas.{Looking}
use Rattle.refine_partition.proofs.staying.staying_class.Given as goal

abbrev pub invariant-loop-place : goal.invariant-loop-place
invariant-loop-place l = Looking l.numbers l.classes l.initial.list.items l.list.items l.block l.place

abbrev pub decreases-loop-place : goal.decreases-loop-place
decreases-loop-place l = length l.list.items - l.place
