use Rattle.std.proofs.Common.{◌≡◌, ◌++◌, drop, string_bytes, flat_map}
use Rattle.cfg_ast.specs.printing.Printed.{lines_text, route_map_lines}
use Rattle.cfg_print.proofs.route_maps.put_route_maps.Given as goal

abbrev pub invariant-loop-map : goal.invariant-loop-map
invariant-loop-map l = string_bytes l.text ++ lines_text (flat_map route_map_lines (drop l.map-index l.items)) ≡ string_bytes l.fn.text
    ++ lines_text (flat_map route_map_lines l.items)
