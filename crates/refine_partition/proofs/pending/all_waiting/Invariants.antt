use Rattle.refine_partition.specs.Pending.{AreAllWaiting}
use Rattle.refine_partition.proofs.pending.all_waiting.Given as goal

abbrev pub invariant-loop-block : goal.invariant-loop-block
invariant-loop-block l = AreAllWaiting l.block l.queue.items l.waits.items
