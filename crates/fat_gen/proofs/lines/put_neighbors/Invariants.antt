use Rattle.std.proofs.Common.{◌≡◌, ◌++◌, flat_map, drop, string_bytes}
use Rattle.fat_gen.specs.SwitchLines.{switch_neighbors}
use Rattle.fat_gen.proofs.lines.put_neighbors.Given as goal

abbrev pub invariant-loop-port : goal.invariant-loop-port
invariant-loop-port l = string_bytes l.text ++ flat_map switch_neighbors (drop l.port-index l.ports) ≡ string_bytes l.fn.text
    ++ flat_map switch_neighbors l.ports
