use Rattle.std.proofs.Common.{arith}
use Rattle.solution_search.specs.Boards.{state_of}
use Rattle.solution_search.proofs.Queued.{queued_more, queued_all}
use Rattle.solution_search.proofs.looking.queue_all.Goals as goal

pub loop-router-preserved : goal.loop-router-preserved
loop-router-preserved c = queued_more (state_of c.args.board.now) c.loop-router.queue c.queue_open.new.queue c.loop-router.router c.loop-router.invariant
    c.in_ok-queue_open.ensures.kept c.in_ok-queue_open.ensures.queued

pub returns : goal.returns
returns c = queued_all (state_of c.args.board.now) c.loop-router.queue c.loop-router.router
    (let total = c.requires.bests in let t = c.loop-router-test.false in omega (arith, total, t)) c.loop-router.invariant
