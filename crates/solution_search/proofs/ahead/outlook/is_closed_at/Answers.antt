use Rattle.std.proofs.Common.{◌<◌, ◌∙◌, length, arith}
use Rattle.solution_search.specs.Boards.{case_of, state_of}
use Rattle.solution_search.proofs.Outlooking.{label_is, closed_settled, closed_unsettled}
use Rattle.solution_search.proofs.ahead.outlook.is_closed_at.Goals as goal

pub returns-in_ok-followed-in-Some : goal.returns-in_ok-followed-in-Some
returns-in_ok-followed-in-Some c =
    let total = c.requires.board.fits.labels in
    let inside = c.requires.router in
    let less : c.args.router < length c.args.board.now.labels = omega (arith, total, inside) in
    let there = label_is c.args.board.now.labels c.as_slice.result.now c.args.router c.index-as_slice-router.result c.index-as_slice-router.is
    c.as_slice.ensures less in
    λ t. closed_settled c.args.lookups.now (case_of (state_of c.args.board.now)) c.args.without c.args.table.now c.args.router c.in-Some.label
    (there ∙ c.in-Some.is) c.in_ok-from-in-Some.from c.in_ok-from-in-Some.ensures (c.in_ok-followed-in-Some.ensures t)

pub returns-in_ok-followed-in-None : goal.returns-in_ok-followed-in-None
returns-in_ok-followed-in-None c =
    let total = c.requires.board.fits.labels in
    let inside = c.requires.router in
    let less : c.args.router < length c.args.board.now.labels = omega (arith, total, inside) in
    let there = label_is c.args.board.now.labels c.as_slice.result.now c.args.router c.index-as_slice-router.result c.index-as_slice-router.is
    c.as_slice.ensures less in
    λ t. closed_unsettled c.args.lookups.now (case_of (state_of c.args.board.now)) c.args.without c.args.table.now c.args.router (there ∙ c.in-None.is)
    (c.in_ok-is_first_foreseen-in-None.ensures c.if-not-branch.false) (c.in_ok-followed-in-None.ensures t)
