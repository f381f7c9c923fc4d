use Rattle.std.proofs.Common.{◌≡◌, ◌++◌, map, drop, string_bytes}
use Rattle.cfg_ast.specs.printing.Printed.{lines_text}
use Rattle.cut_certificate.specs.Printed.{split_line}
use Rattle.cut_certificate.proofs.printing.put_splits.Given as goal

abbrev pub invariant-loop-split : goal.invariant-loop-split
invariant-loop-split l = string_bytes l.text ++ lines_text (map (split_line l.graph.edges l.names) (drop l.split-index l.splits)) ≡ string_bytes l.fn.text
    ++ lines_text (map (split_line l.graph.edges l.names) l.splits)
