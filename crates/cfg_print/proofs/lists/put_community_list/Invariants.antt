use Rattle.std.proofs.Common.{◌≡◌, ◌++◌, drop, string_bytes, map}
use Rattle.cfg_ast.specs.printing.Printed.{lines_text, community_list_line}
use Rattle.cfg_print.proofs.lists.put_community_list.Given as goal

abbrev pub invariant-loop-line : goal.invariant-loop-line
invariant-loop-line l = string_bytes l.text ++ lines_text (map (community_list_line l.list.name) (drop l.line-index l.lines)) ≡ string_bytes l.fn.text
    ++ lines_text (map (community_list_line l.list.name) l.lines)
