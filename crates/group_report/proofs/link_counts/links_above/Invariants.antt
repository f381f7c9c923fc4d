use Rattle.std.proofs.Common.{◌≡◌, ◌≤◌, ◌+◌, ◌*◌}
use Rattle.group_report.specs.LinkTables.{links_between, sum_below}
use Rattle.group_report.proofs.link_counts.links_above.Given as goal

abbrev pub invariant-loop-more : goal.invariant-loop-more
invariant-loop-more l = record {
  is : l.links ≡ sum_below (λ more. links_between l.size l.table l.low (l.low + 1 + more)) l.more;
  few : l.links ≤ l.more * 65536;
}
