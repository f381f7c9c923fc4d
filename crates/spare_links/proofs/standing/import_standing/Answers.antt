use Rattle.std.proofs.Common.{◌+◌, suc, ◌∙◌, ℕ, List, length, ap}
use Rattle.srp_core.specs.Problem.{number}
use Rattle.spare_links.proofs.Standings.{standing_by, import_stands}
use Rattle.spare_links.proofs.standing.import_standing.Goals as goal

pub returns-in-Bgp : goal.returns-in-Bgp
returns-in-Bgp c =
    let imported = c.args.imported.now in
    let route = c.args.route.now in
    c.standing_of.ensures ∙ ap (λ (l : List ℕ). standing_by imported.lp c.grown.result l route) c.as_slice-in-Bgp.ensures.all
    ∙ import_stands imported c.args.from.now route (number c.args.srp.now c.args.edge.now.exporter) c.grown.result c.in-Bgp.lp c.in-Bgp.path c.in-Bgp.comms
    c.in-Bgp.is (c.grown.ensures ∙ ap (λ (l : List ℕ). length l + suc imported.adds) c.as_slice.ensures)
