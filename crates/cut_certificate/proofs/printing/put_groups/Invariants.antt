use Rattle.std.proofs.Common.{◌≡◌, ◌++◌, map, drop, string_bytes}
use Rattle.cfg_ast.specs.printing.Printed.{lines_text}
use Rattle.cut_certificate.specs.Printed.{named_group_line}
use Rattle.cut_certificate.proofs.printing.put_groups.Given as goal

abbrev pub invariant-loop-group : goal.invariant-loop-group
invariant-loop-group l = string_bytes l.text ++ lines_text (map (named_group_line l.names) (drop l.group-index l.groups)) ≡ string_bytes l.fn.text
    ++ lines_text (map (named_group_line l.names) l.groups)
