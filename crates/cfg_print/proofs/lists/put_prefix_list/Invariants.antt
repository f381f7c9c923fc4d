use Rattle.std.proofs.Common.{◌≡◌, ◌++◌, drop, string_bytes, map}
use Rattle.cfg_ast.specs.printing.Printed.{lines_text, prefix_entry_line}
use Rattle.cfg_print.proofs.lists.put_prefix_list.Given as goal

abbrev pub invariant-loop-entry : goal.invariant-loop-entry
invariant-loop-entry l = string_bytes l.text ++ lines_text (map (prefix_entry_line l.list.name) (drop l.entry-index l.entries)) ≡ string_bytes l.fn.text
    ++ lines_text (map (prefix_entry_line l.list.name) l.entries)
