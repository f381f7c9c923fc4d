use Rattle.std.proofs.Common.{◌≡◌, ◌++◌, map, drop}
use Rattle.config_emit.specs.MapKeys.{list_said, list_shown}
use Rattle.config_emit.proofs.map_keys.lists_key.Given as goal

abbrev pub invariant-loop-list : goal.invariant-loop-list
invariant-loop-list l = map list_shown l.key.items ++ map list_said (drop l.list-index l.list-items) ≡ map list_said l.list-items
