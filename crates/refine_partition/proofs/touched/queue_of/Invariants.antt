use Rattle.std.proofs.Common.{take}
use Rattle.refine_partition.specs.Touched.{IsQueue}
use Rattle.refine_partition.proofs.touched.queue_of.Given as goal

abbrev pub invariant-loop-block : goal.invariant-loop-block
invariant-loop-block l = IsQueue l.numbers (take l.block-index l.touched) l.queue.items
