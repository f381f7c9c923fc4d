use Rattle.std.proofs.Common.{◌≡◌, ◌++◌, ◌+◌, drop, flat_map, string_bytes}
use Rattle.std.specs.List.{enumerate_from}
use Rattle.answer_groups.specs.ClassLines.{class_line, class_lines}
use Rattle.answer_groups.proofs.classes.class_lines.Given as goal

abbrev pub invariant-loop-i : goal.invariant-loop-i
invariant-loop-i l = string_bytes l.text ++ flat_map (class_line l.network) (enumerate_from (l.i + 1) (drop l.i l.classes)) ≡ class_lines l.network l.classes
