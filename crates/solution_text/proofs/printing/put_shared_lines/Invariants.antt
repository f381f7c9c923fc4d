use Rattle.std.proofs.Common.{◌≡◌, ◌++◌, drop, string_bytes}
use Rattle.solution_text.specs.Printed.{labels_text}
use Rattle.solution_text.proofs.printing.put_shared_lines.Given as goal

abbrev pub invariant-loop-i : goal.invariant-loop-i
invariant-loop-i l = string_bytes l.text ++ labels_text (drop l.i l.names) (drop l.i l.labels) ≡ string_bytes l.fn.text ++ labels_text l.names l.labels
