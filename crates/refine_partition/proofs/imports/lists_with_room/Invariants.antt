use Rattle.std.proofs.Common.{◌≡◌, [], length, All}
use Rattle.refine_partition.proofs.imports.lists_with_room.Given as goal

abbrev pub invariant-loop-count : goal.invariant-loop-count
invariant-loop-count l = record {
  total : length l.lists.items ≡ l.count-index;
  empty : All (λ v. v.items ≡ []) l.lists.items;
}
