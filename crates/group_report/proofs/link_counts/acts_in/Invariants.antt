use Rattle.std.proofs.Common.{◌≡◌, ◌≤◌}
use Rattle.group_report.specs.LinkTables.{is_set, one_where, sum_below}
use Rattle.group_report.proofs.link_counts.acts_in.Given as goal

abbrev pub invariant-loop-act : goal.invariant-loop-act
invariant-loop-act l = record {
  is : l.acts ≡ sum_below (λ act. one_where (is_set l.size l.table l.importer l.exporter act)) l.act;
  few : l.acts ≤ l.act;
}
