use Rattle.std.proofs.Common.{All, take_all, subst}
use Rattle.std.proofs.lemmas.List.Elements.{All-more}
use Rattle.solution_search.specs.Boards.{case_of, state_of}
use Rattle.solution_search.specs.Outlooks.{GivesNothing}
use Rattle.solution_search.proofs.ahead.outlook.all_give_nothing.Goals as goal

pub loop-from-preserved : goal.loop-from-preserved
loop-from-preserved c =
    All-more (GivesNothing c.args.lookups.now (case_of (state_of c.args.board.now)) c.args.edge) c.args.list.now c.loop-from.from-index c.from-item.result
    c.loop-from-test.true c.loop-from.invariant
    (subst (GivesNothing c.args.lookups.now (case_of (state_of c.args.board.now)) c.args.edge) c.from-item.is
    (c.in_ok-gives_nothing.ensures c.if-not-branch.false))

pub returns : goal.returns
returns c = λ t. subst (All (GivesNothing c.args.lookups.now (case_of (state_of c.args.board.now)) c.args.edge))
    (take_all c.loop-from.from-index c.args.list.now c.loop-from-test.false) c.loop-from.invariant
