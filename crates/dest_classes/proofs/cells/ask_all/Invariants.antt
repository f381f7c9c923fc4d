use Rattle.std.proofs.Common.{◌-◌, ◌≤◌, length, map, take}
use Rattle.dest_classes.specs.Cells.{entries_of, AreMembers}
use Rattle.dest_classes.proofs.cells.ask_all.Given as goal

abbrev pub invariant-loop-done : goal.invariant-loop-done
invariant-loop-done l = record {
  within : l.done ≤ length l.lists;
  are : AreMembers (entries_of l.fn.members.items) (take l.done (map (λ list. list.now) l.lists)) l.members.items;
}

abbrev pub decreases-loop-done : goal.decreases-loop-done
decreases-loop-done l = length l.lists - l.done
