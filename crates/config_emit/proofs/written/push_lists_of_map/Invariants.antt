use Rattle.std.proofs.Common.{◌≡◌, ◌++◌, drop, flat_map}
use Rattle.config_emit.specs.Maps.{lists_of_entry}
use Rattle.config_emit.proofs.written.push_lists_of_map.Given as goal

abbrev pub invariant-loop-entry : goal.invariant-loop-entry
invariant-loop-entry l = l.found ++ flat_map (lists_of_entry l.k) (drop l.entry-index l.entry-items) ≡ l.initial.found
    ++ flat_map (lists_of_entry l.k) l.entry-items
