use Rattle.std.proofs.Common.{◌≡◌, ◌++◌, drop}
use Rattle.route_maps.proofs.copies.all_lists_copy.Given as goal

abbrev pub invariant-loop-list : goal.invariant-loop-list
invariant-loop-list l = l.copies ++ drop l.list-index l.lists ≡ l.lists
