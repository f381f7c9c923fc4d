use Rattle.std.proofs.Common.{◌≡◌, ℕ, ◌+◌, ◌-◌, ◌*◌, ◌≤◌, length}
use Rattle.refine_partition.specs.Loose.{AreSettled}
use Rattle.refine_partition.specs.Pending.{AreMarked, AreTakenOnce, IsRefining}
use Rattle.refine_partition.proofs.pending.refined.Given as goal

abbrev pub invariant-loop-block : goal.invariant-loop-block
invariant-loop-block g l = record {
  settled : AreSettled l.blocks.numbers.items l.blocks.classes.items l.blocks.lists.items;
  refining : IsRefining l.graph l.blocks.numbers.items (length l.blocks.lists.items) l.queue.items;
  size : length l.waits.items ≡ length l.blocks.lists.items;
  marked : AreMarked l.queue.items l.waits.items;
  splits : (splits : ℕ) × (l.turns ≡ l.initial.turns + splits) × AreTakenOnce l.graph splits l.blocks.numbers.items (length l.blocks.lists.items) l.queue.items;
  places : length l.work.arrivals.places.items ≡ l.graph.count;
  bound : l.turns + 2 * (l.graph.count - length l.blocks.lists.items) + length l.queue.items ≤ l.initial.turns + 2 * l.graph.count;
}

abbrev pub decreases-loop-block : goal.decreases-loop-block
decreases-loop-block g l = 2 * (l.graph.count - length l.blocks.lists.items) + length l.queue.items
