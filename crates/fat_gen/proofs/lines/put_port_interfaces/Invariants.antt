use Rattle.std.proofs.Common.{◌≡◌, ◌++◌, flat_map, drop, string_bytes}
use Rattle.std.specs.List.{enumerate_from}
use Rattle.fat_gen.specs.SwitchLines.{port_interface, port_interfaces}
use Rattle.fat_gen.proofs.lines.put_port_interfaces.Given as goal

abbrev pub invariant-loop-i : goal.invariant-loop-i
invariant-loop-i l = string_bytes l.text ++ flat_map port_interface (enumerate_from l.i (drop l.i l.ports)) ≡ string_bytes l.fn.text ++ port_interfaces l.ports
