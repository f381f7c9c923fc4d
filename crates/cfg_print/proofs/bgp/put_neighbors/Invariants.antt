use Rattle.std.proofs.Common.{◌≡◌, ◌++◌, drop, string_bytes, flat_map}
use Rattle.cfg_ast.specs.printing.Printed.{lines_text, neighbor_lines}
use Rattle.cfg_print.proofs.bgp.put_neighbors.Given as goal

abbrev pub invariant-loop-peer : goal.invariant-loop-peer
invariant-loop-peer l = string_bytes l.text ++ lines_text (flat_map neighbor_lines (drop l.peer-index l.items)) ≡ string_bytes l.fn.text
    ++ lines_text (flat_map neighbor_lines l.items)
