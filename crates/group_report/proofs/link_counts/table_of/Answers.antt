use Rattle.std.proofs.Common.{◌+◌, ℕ, true, get_or, set, take, refl, sym, subst}
use Rattle.base_kit.specs.declared.act_graph.Edge.{Edge}
use Rattle.group_report.specs.LinkTables.{IsLinkTable}
use Rattle.group_report.proofs.TableSteps.{next_table, empty_table, group_below}
use Rattle.group_report.proofs.link_counts.table_of.Goals as goal

pub loop-edge-init : goal.loop-edge-init
loop-edge-init c = empty_table c.args.groups.now c.args.size c.in_ok-table.table.items (c.in_ok-table.ensures.items_if_clones_equal (λ y h. h))

pub loop-edge-preserved : goal.loop-edge-preserved
loop-edge-preserved c =
    let none : Edge = record { importer = 0; exporter = 0; act = 0; link = 0 } in
    let i : ℕ = c.loop-edge.edge-index in
    let e : Edge = get_or c.args.edges.now i none in
    let size = c.args.size in
    let importer = c.requires.importers i none c.loop-edge-test.true in
    let exporter = c.requires.exporters i none c.loop-edge-test.true in
    let few = c.requires.acts i none c.loop-edge-test.true in
    subst (λ (k : ℕ). IsLinkTable (take (i + 1) c.args.edges.now) c.args.groups.now size (set c.loop-edge.table.items k true)) (sym c.cell-place.ensures.is)
    (next_table c.args.edges.now c.args.groups.now size c.loop-edge.table.items i e none c.group_of-importer.result c.group_of-exporter.result
    c.loop-edge-test.true
    refl few
    c.group_of-importer.ensures c.group_of-exporter.ensures
    (group_below c.args.groups.now size.groups e.importer c.group_of-importer.result c.requires.numbered importer c.group_of-importer.ensures)
    (group_below c.args.groups.now size.groups e.exporter c.group_of-exporter.result c.requires.numbered exporter c.group_of-exporter.ensures)
    c.loop-edge.invariant)
