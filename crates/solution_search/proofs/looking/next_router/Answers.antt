use Rattle.solution_search.specs.Boards.{state_of}
use Rattle.solution_search.proofs.Queued.{drops_queued, queue_at_end, first_is_least}
use Rattle.solution_search.proofs.looking.next_router.Goals as goal

pub returns-then-is_turn-clause-next : goal.returns-then-is_turn-clause-next
returns-then-is_turn-clause-next c = first_is_least (state_of c.args.board.now) c.args.routers c.in-Some.size c.in-Some.router c.loop-size.queue
    c.in-Some.ensures c.if-is_turn.ensures c.loop-size.invariant

pub loop-size-smaller : goal.loop-size-smaller
loop-size-smaller c = c.drop_first.ensures.fewer c.in-Some.size c.in-Some.router c.in-Some.ensures

pub loop-size-preserved : goal.loop-size-preserved
loop-size-preserved c = drops_queued (state_of c.args.board.now) c.args.routers c.in-Some.size c.in-Some.router c.loop-size.queue c.drop_first.new.self
    c.requires.fits.bests (c.drop_first.ensures.rest c.in-Some.size c.in-Some.router c.in-Some.ensures) c.if-is_turn.ensures c.loop-size.invariant

pub returns-clause-next : goal.returns-clause-next
returns-clause-next c = queue_at_end (state_of c.args.board.now) c.args.routers c.loop-size.queue c.in_default.ensures c.loop-size.invariant
