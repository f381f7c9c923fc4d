use Rattle.std.proofs.Common.{take}
use Rattle.refine_partition.specs.Kept.{AreKept}
use Rattle.refine_partition.proofs.division.keep_members.Given as goal

abbrev pub invariant-loop-block : goal.invariant-loop-block
invariant-loop-block l = AreKept l.numbers (take l.block-index l.touched) l.initial.blocks.items l.blocks.items
