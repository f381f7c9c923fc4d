use Rattle.std.proofs.Common.{◌<◌, ◌∙◌, All, length, take_all, subst, arith}
use Rattle.std.proofs.lemmas.List.Elements.{All-more}
use Rattle.solution_search.specs.Boards.{case_of, state_of}
use Rattle.solution_search.specs.Outlooks.{IsFollowed}
use Rattle.solution_search.proofs.Outlooking.{list_is}
use Rattle.solution_search.proofs.ahead.outlook.is_list_followed.Goals as goal

pub loop-from-preserved : goal.loop-from-preserved
loop-from-preserved c =
    All-more (IsFollowed c.args.lookups.now (case_of (state_of c.args.board.now)) c.args.without c.args.table.now c.args.router)
    c.as_slice-from-items.result.now
    c.loop-from.from-index c.from-item.result c.loop-from-test.true c.loop-from.invariant
    (subst (IsFollowed c.args.lookups.now (case_of (state_of c.args.board.now)) c.args.without c.args.table.now c.args.router) c.from-item.is
    (c.in_ok-is_followed.ensures c.if-not-branch.false))

pub returns : goal.returns
returns c =
    let total = c.requires.table in
    let inside = c.requires.router in
    let less : c.args.router < length c.args.table.now = omega (arith, total, inside) in
    let items = c.as_slice-from-items.result.now in
    let list = list_is c.args.table.now c.args.router c.index-table-router.result items c.index-table-router.is less c.as_slice-from-items.ensures in
    λ t. subst (All (IsFollowed c.args.lookups.now (case_of (state_of c.args.board.now)) c.args.without c.args.table.now c.args.router))
    (take_all c.loop-from.from-index items c.loop-from-test.false ∙ list) c.loop-from.invariant
