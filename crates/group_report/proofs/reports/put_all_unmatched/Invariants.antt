use Rattle.std.proofs.Common.{◌≡◌, ◌++◌, drop, flat_map, string_bytes}
use Rattle.group_report.specs.Reports.{unmatched_line}
use Rattle.group_report.proofs.reports.put_all_unmatched.Given as goal

abbrev pub invariant-loop-neighbor : goal.invariant-loop-neighbor
invariant-loop-neighbor l = string_bytes l.text ++ flat_map (unmatched_line l.problem) (drop l.neighbor-index l.unmatched) ≡ string_bytes l.fn.text
    ++ flat_map (unmatched_line l.problem) l.unmatched
