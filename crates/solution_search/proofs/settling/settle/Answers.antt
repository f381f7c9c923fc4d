use Rattle.std.proofs.Common.{subst}
use Rattle.srp_core.specs.Problem.{IsProblem}
use Rattle.solution_search.proofs.Giving.{settled}
use Rattle.solution_search.proofs.settling.settle.Goals as goal

pub returns-clause-settled : goal.returns-clause-settled
returns-clause-settled c = λ best e empty. settled c.args.lookups.now
    (subst IsProblem c.lookups.view_is c.count-known.ensures.rules) c.args.board.now c.take.new.board
    c.spread.new.board c.args.router best c.in_ok-outcome.outcome c.requires.fits c.requires.router e empty
    (c.in_ok-take.ensures.takes best e) c.in_ok-outcome.ensures.spread

pub spread-requires-clause-fits : goal.spread-requires-clause-fits
spread-requires-clause-fits c = c.in_ok-take.ensures.fits
