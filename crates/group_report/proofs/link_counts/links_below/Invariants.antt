use Rattle.std.proofs.Common.{◌≡◌, ◌≤◌, ◌+◌, ◌-◌, ◌*◌}
use Rattle.group_report.specs.LinkTables.{links_above, sum_below}
use Rattle.group_report.proofs.link_counts.links_below.Given as goal

abbrev pub invariant-loop-low : goal.invariant-loop-low
invariant-loop-low l = record {
  is : l.links ≡ sum_below (λ g. links_above l.size l.table g (l.size.groups - (g + 1))) l.low;
  few : l.links ≤ l.low * 16777216;
}
