use Rattle.std.proofs.Common.{◌≡◌, ◌++◌, map, drop}
use Rattle.std.specs.List.{AllByRecursion}
use Rattle.dest_classes.specs.Cells.{cell_key}
use Rattle.dest_classes.specs.Stretches.{IsStretch}
use Rattle.dest_classes.proofs.cells.keys_of.Given as goal

abbrev pub invariant-loop-place : goal.invariant-loop-place
invariant-loop-place l = let key = cell_key (map (λ list. list.now) l.lists) in record {
  stretches : AllByRecursion (IsStretch (map (λ list. list.now) l.lists)) l.stretches.items;
  keys : l.keys.items ++ map key (drop l.place l.members) ≡ map key l.members;
}
