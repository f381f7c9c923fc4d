use Rattle.std.proofs.Common.{◌≡◌, length}
use Rattle.refine_partition.specs.Members.{AreBlocksAmong}
use Rattle.refine_partition.proofs.blocks.blocks_of.Given as goal

abbrev pub invariant-loop-router : goal.invariant-loop-router
invariant-loop-router l = record {
  total : length l.blocks.items ≡ l.count;
  blocks : AreBlocksAmong l.router l.numbers l.blocks.items;
}
