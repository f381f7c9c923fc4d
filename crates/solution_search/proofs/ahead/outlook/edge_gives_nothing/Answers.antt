use Rattle.std.proofs.Common.{◌≡◌, ◌<◌, ◌∙◌, All, length, None, subst, sym, arith}
use Rattle.solution_search.specs.Boards.{case_of, state_of}
use Rattle.solution_search.specs.Outlooks.{GivesNothing}
use Rattle.solution_search.proofs.Outlooking.{label_is, list_is}
use Rattle.solution_search.proofs.ahead.outlook.edge_gives_nothing.Goals as goal

pub returns-in-Some : goal.returns-in-Some
returns-in-Some c =
    let total = c.requires.board.fits.labels in
    let inside = c.requires.exporter in
    let less : c.args.edge.exporter < length c.args.board.now.labels = omega (arith, total, inside) in
    let there = label_is c.args.board.now.labels c.as_slice.result.now c.args.edge.exporter c.index-as_slice-edge.result c.index-as_slice-edge.is
    c.as_slice.ensures less in
    let some = c.in-Some.is in
    λ t none. absurd (let both : None ≡ c.index-as_slice-edge.result = sym none ∙ there in cc)

pub returns-in_ok-nothing-in-None : goal.returns-in_ok-nothing-in-None
returns-in_ok-nothing-in-None c =
    let total = c.requires.table in
    let inside = c.requires.exporter in
    let less : c.args.edge.exporter < length c.args.outlook.now.table.items = omega (arith, total, inside) in
    let list = list_is c.args.outlook.now.table.items c.args.edge.exporter c.index.result.now c.as_slice-list.result.now c.index.ensures less
    c.as_slice-list.ensures in
    λ t none. subst (All (GivesNothing c.args.lookups.now (case_of (state_of c.args.board.now)) c.args.edge)) list (c.in_ok-nothing-in-None.ensures t)
