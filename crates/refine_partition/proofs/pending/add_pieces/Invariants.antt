use Rattle.std.proofs.Common.{◌≡◌, ◌+◌, length, take}
use Rattle.refine_partition.specs.Pending.{AreMarked, ArePiecesWaiting}
use Rattle.refine_partition.proofs.pending.add_pieces.Given as goal

abbrev pub invariant-loop-origin : goal.invariant-loop-origin
invariant-loop-origin l = record {
  size : length l.waits.items ≡ length l.initial.waits.items + l.origin-index;
  marked : AreMarked l.queue.items l.waits.items;
  waiting : ArePiecesWaiting l.initial.queue.items l.queue.items (length l.initial.waits.items) (take l.origin-index l.origins);
}
