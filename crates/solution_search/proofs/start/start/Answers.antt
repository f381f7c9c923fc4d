use Rattle.std.proofs.Common.{refl}
use Rattle.solution_search.proofs.Started.{start_board}
use Rattle.solution_search.proofs.start.start.Goals as goal

pub returns-clause-board : goal.returns-clause-board
returns-clause-board c = start_board c.args.lookups.now _ c.in_ok-labels.ensures c.in_ok-waits.ensures c.in_ok-bests.ensures.total c.in_ok-bests.ensures.each
    c.new-changes.ensures.items refl
