use Rattle.std.proofs.Common.{◌≡◌, ◌++◌, ◌-◌, flat_map, string_bytes}
use Rattle.std.specs.List.{range_with_len}
use Rattle.group_report.specs.GroupLines.{line_of_group, group_lines}
use Rattle.group_report.proofs.groups.put_group_lines.Given as goal

abbrev pub invariant-loop-group : goal.invariant-loop-group
invariant-loop-group l =
    string_bytes l.text ++ flat_map (line_of_group l.problem l.partition) (range_with_len l.group (l.count - l.group)) ≡ string_bytes l.fn.text
    ++ group_lines l.problem l.partition l.count
