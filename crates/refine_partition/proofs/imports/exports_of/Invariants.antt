use Rattle.std.proofs.Common.{◌≡◌, length, take}
use Rattle.refine_partition.specs.Index.{IsImportIndex}
use Rattle.refine_partition.proofs.imports.exports_of.Given as goal

abbrev pub invariant-loop-edge : goal.invariant-loop-edge
invariant-loop-edge l = record {
  total : length l.imports.items ≡ l.count;
  index : IsImportIndex (take l.edge-index l.edges) l.imports.items;
}
