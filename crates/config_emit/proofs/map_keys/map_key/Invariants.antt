use Rattle.std.proofs.Common.{◌≡◌, ◌++◌, map, drop}
use Rattle.config_emit.specs.MapKeys.{entry_said, entry_shown}
use Rattle.config_emit.proofs.map_keys.map_key.Given as goal

abbrev pub invariant-loop-entry : goal.invariant-loop-entry
invariant-loop-entry l = map entry_shown l.key.items ++ map entry_said (drop l.entry-index l.entry-items) ≡ map entry_said l.entry-items
