use Rattle.std.proofs.Common.{◌≡◌, [], length, All}
use Rattle.refine_partition.proofs.blocks.empty_blocks.Given as goal

abbrev pub invariant-loop-block : goal.invariant-loop-block
invariant-loop-block l = record {
  total : length l.blocks.items ≡ l._block;
  empty : All (λ v. v.items ≡ []) l.blocks.items;
}
