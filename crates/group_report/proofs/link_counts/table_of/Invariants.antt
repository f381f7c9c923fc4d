use Rattle.std.proofs.Common.{take}
use Rattle.group_report.specs.LinkTables.{IsLinkTable}
use Rattle.group_report.proofs.link_counts.table_of.Given as goal

abbrev pub invariant-loop-edge : goal.invariant-loop-edge
invariant-loop-edge l = IsLinkTable (take l.edge-index l.edges) l.groups l.size l.table.items
