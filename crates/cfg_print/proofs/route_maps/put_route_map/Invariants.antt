use Rattle.std.proofs.Common.{◌≡◌, ◌++◌, drop, string_bytes, flat_map}
use Rattle.cfg_ast.specs.printing.Printed.{lines_text, map_entry_lines}
use Rattle.cfg_print.proofs.route_maps.put_route_map.Given as goal

abbrev pub invariant-loop-entry : goal.invariant-loop-entry
invariant-loop-entry l = string_bytes l.text ++ lines_text (flat_map (map_entry_lines l.map.name) (drop l.entry-index l.entries)) ≡ string_bytes l.fn.text
    ++ lines_text (flat_map (map_entry_lines l.map.name) l.entries)
