use Rattle.std.proofs.Common.{◌≡◌, ◌++◌, drop, string_bytes, map}
use Rattle.cfg_ast.specs.printing.Printed.{lines_text, not_passive_line}
use Rattle.cfg_print.proofs.ospf.put_not_passive.Given as goal

abbrev pub invariant-loop-name : goal.invariant-loop-name
invariant-loop-name l = string_bytes l.text ++ lines_text (map not_passive_line (drop l.name-index l.items)) ≡ string_bytes l.fn.text
    ++ lines_text (map not_passive_line l.items)
