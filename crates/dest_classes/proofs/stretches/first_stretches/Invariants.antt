use Rattle.std.proofs.Common.{◌-◌, length, map}
use Rattle.std.specs.List.{AllByRecursion}
use Rattle.dest_classes.specs.Stretches.{IsStretch}
use Rattle.dest_classes.proofs.stretches.first_stretches.Given as goal

abbrev pub invariant-loop-alloc : goal.invariant-loop-alloc
invariant-loop-alloc l = AllByRecursion (IsStretch (map (λ list. list.now) l.lists)) l.stretches.items

abbrev pub decreases-loop-alloc : goal.decreases-loop-alloc
decreases-loop-alloc l = 33 - length l.stretches.items
