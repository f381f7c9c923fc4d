use Rattle.std.proofs.Common.{◌≡◌, ◌++◌, drop, string_bytes, map}
use Rattle.cfg_ast.specs.printing.Printed.{lines_text, network_area_line}
use Rattle.cfg_print.proofs.ospf.put_areas.Given as goal

abbrev pub invariant-loop-area : goal.invariant-loop-area
invariant-loop-area l = string_bytes l.text ++ lines_text (map network_area_line (drop l.area-index l.items)) ≡ string_bytes l.fn.text
    ++ lines_text (map network_area_line l.items)
