use Rattle.std.proofs.Common.{ℕ, Bool, List, length, ap, ◌∙◌}
use Rattle.abstract_net.specs.Links.{quotient_links}
use Rattle.group_report.specs.LinkTables.{links_below}
use Rattle.group_report.proofs.LinkSums.{counted}
use Rattle.group_report.proofs.link_counts.count_over.Goals as goal

pub returns-in-Some : goal.returns-in-Some
returns-in-Some c =
    let size = c.in-Some.size in
    c.links_below.ensures
    ∙ ap (λ (table : List Bool). links_below size table size.groups) c.deref.ensures.value
    ∙ counted c.args.edges.now c.args.groups.now size c.in_ok-table.table.items c.in_ok-table.ensures
    ∙ ap (λ (count : ℕ). length (quotient_links c.args.edges.now c.args.groups.now count)) c.in-Some.ensures.groups
