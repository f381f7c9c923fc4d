use Rattle.std.proofs.Common.{◌≡◌, ◌++◌, drop}
use Rattle.route_maps.proofs.copies.map_copy.Given as goal

abbrev pub invariant-loop-entry : goal.invariant-loop-entry
invariant-loop-entry l = l.entries ++ drop l.entry-index l.map.entries ≡ l.map.entries
