use Rattle.std.proofs.Common.{subst}
use Rattle.srp_core.specs.Problem.{IsProblem}
use Rattle.solution_search.specs.declared.settling.Outcome.{Outcome}
use Rattle.solution_search.specs.Steps.{SearchSteps}
use Rattle.solution_search.proofs.Advanced.{look_of}
use Rattle.solution_search.proofs.Stepping.{inside, unsettled, forked, in_turn}
use Rattle.solution_search.proofs.searching.settle_in_turn.Goals as goal

pub put_fork-requires-clause-router : goal.put_fork-requires-clause-router
put_fork-requires-clause-router c =
    inside c.args.lookups.now (subst IsProblem c.lookups.view_is c.count-known.ensures.rules) c.args.board.now c.requires.board c.args.router c.requires.least

pub put_fork-requires-clause-unsettled : goal.put_fork-requires-clause-unsettled
put_fork-requires-clause-unsettled c =
    unsettled c.args.lookups.now (subst IsProblem c.lookups.view_is c.count-known.ensures.rules) c.args.board.now c.requires.board c.args.router
    c.requires.least

pub settle-requires-clause-fits : goal.settle-requires-clause-fits
settle-requires-clause-fits c =
    (forked c.args.lookups.now (subst IsProblem c.lookups.view_is c.count-known.ensures.rules) c.args.board.now c.requires.board c.args.router c.requires.least
    c.put_fork.new.board c.in_ok-put_fork.ensures.forks).fits

pub settle-requires-clause-router : goal.settle-requires-clause-router
settle-requires-clause-router c =
    inside c.args.lookups.now (subst IsProblem c.lookups.view_is c.count-known.ensures.rules) c.args.board.now c.requires.board c.args.router c.requires.least

pub returns-in-Fine-clause-steps : goal.returns-in-Fine-clause-steps
returns-in-Fine-clause-steps c =
    let step = in_turn c.args.lookups.now (subst IsProblem c.lookups.view_is c.count-known.ensures.rules) c.args.board.now c.requires.board c.args.router
    c.requires.least c.put_fork.new.board c.in_ok-put_fork.ensures.forks c.settle.new.board c.in_ok-settle.field-0 c.in_ok-settle.ensures.settled in
    subst (λ (o : Outcome). SearchSteps c.args.lookups.now c.args.board.now c.settle.new.board (look_of o)) c.in-Fine.is step

pub returns-in-Upset-clause-steps : goal.returns-in-Upset-clause-steps
returns-in-Upset-clause-steps c =
    let step = in_turn c.args.lookups.now (subst IsProblem c.lookups.view_is c.count-known.ensures.rules) c.args.board.now c.requires.board c.args.router
    c.requires.least c.put_fork.new.board c.in_ok-put_fork.ensures.forks c.settle.new.board c.in_ok-settle.field-0 c.in_ok-settle.ensures.settled in
    subst (λ (o : Outcome). SearchSteps c.args.lookups.now c.args.board.now c.settle.new.board (look_of o)) c.in-Upset.is step
