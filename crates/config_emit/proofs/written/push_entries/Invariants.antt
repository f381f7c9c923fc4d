use Rattle.std.proofs.Common.{◌≡◌, ◌++◌, map, drop}
use Rattle.config_emit.specs.Maps.{written_entry}
use Rattle.config_emit.proofs.written.push_entries.Given as goal

abbrev pub invariant-loop-entry : goal.invariant-loop-entry
invariant-loop-entry l = l.found ++ map (written_entry l.number l.k) (drop l.entry-index l.entries) ≡ l.initial.found
    ++ map (written_entry l.number l.k) l.entries
