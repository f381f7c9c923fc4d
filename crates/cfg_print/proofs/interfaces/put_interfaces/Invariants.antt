use Rattle.std.proofs.Common.{◌≡◌, ◌++◌, drop, string_bytes, flat_map}
use Rattle.cfg_ast.specs.printing.Printed.{lines_text, interface_lines}
use Rattle.cfg_print.proofs.interfaces.put_interfaces.Given as goal

abbrev pub invariant-loop-interface : goal.invariant-loop-interface
invariant-loop-interface l = string_bytes l.text ++ lines_text (flat_map interface_lines (drop l.interface-index l.items)) ≡ string_bytes l.fn.text
    ++ lines_text (flat_map interface_lines l.items)
