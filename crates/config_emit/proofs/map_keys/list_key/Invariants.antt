use Rattle.std.proofs.Common.{◌≡◌, ◌++◌, map, drop}
use Rattle.config_emit.specs.MapKeys.{line_said, line_shown}
use Rattle.config_emit.proofs.map_keys.list_key.Given as goal

abbrev pub invariant-loop-line : goal.invariant-loop-line
invariant-loop-line l = map line_shown l.key.items ++ map line_said (drop l.line-index l.line-items) ≡ map line_said l.line-items
