use Rattle.std.proofs.Common.{◌≡◌, ◌++◌, List, drop, flat_map, string_bytes}
use Rattle.std.specs.List.{enumerate_from}
use Rattle.fat_gen.specs.declared.cable.Cable.{Cable}
use Rattle.fat_gen.specs.PortTables.{ArePortsByPlace}
use Rattle.fat_gen.specs.SwitchLines.{switch_lines}
use Rattle.fat_gen.proofs.tree.put_switches.Given as goal

abbrev pub invariant-loop-i : goal.invariant-loop-i
invariant-loop-i l = (cables : List Cable) → ArePortsByPlace cables l.table →
    string_bytes l.text ++ flat_map (switch_lines cables) (enumerate_from l.i (drop l.i l.switches)) ≡ string_bytes l.fn.text
    ++ flat_map (switch_lines cables) (enumerate_from 0 l.switches)
