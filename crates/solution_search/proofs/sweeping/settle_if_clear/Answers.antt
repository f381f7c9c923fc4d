use Rattle.std.proofs.Common.{◌∙◌, None, subst, sym}
use Rattle.srp_core.specs.Problem.{IsProblem}
use Rattle.solution_search.specs.declared.settling.Outcome.{Outcome}
use Rattle.solution_search.specs.Boards.{state_of, is_tied}
use Rattle.solution_search.specs.Steps.{SearchSteps}
use Rattle.solution_search.proofs.Advanced.{look_of}
use Rattle.solution_search.proofs.Opened.{best_known}
use Rattle.solution_search.proofs.Stepping.{clear_waiting, clear_taken, foresees_on}
use Rattle.solution_search.proofs.sweeping.settle_if_clear.Goals as goal

pub nothing_comes-requires-clause-table : goal.nothing_comes-requires-clause-table
nothing_comes-requires-clause-table c = c.requires.outlook.total

pub nothing_comes-requires-clause-unsettled : goal.nothing_comes-requires-clause-unsettled
nothing_comes-requires-clause-unsettled c =
    let P = c.args.lookups.now in
    let good = subst IsProblem c.lookups.view_is c.count-routers.ensures.rules in
    let old = c.args.board.now in
    (best_known P good (is_tied old) (state_of old) c.requires.board.state c.args.router
    (sym c.is_offered.ensures ∙ c.if-not-is_offered.false)).0

pub returns-then-not-is_open-clause-steps : goal.returns-then-not-is_open-clause-steps
returns-then-not-is_open-clause-steps c =
    let P = c.args.lookups.now in
    let good = subst IsProblem c.lookups.view_is c.count-routers.ensures.rules in
    let old = c.args.board.now in
    let offered = sym c.is_offered.ensures ∙ c.if-not-is_offered.false in
    let nothing = c.in_ok-nothing_comes.ensures c.if-not-branch.false None c.requires.outlook in
    clear_waiting P good old c.requires.board c.args.router c.requires.router offered nothing (sym c.is_open.ensures ∙ c.if-not-is_open.true)

pub returns-in-Fine-clause-steps : goal.returns-in-Fine-clause-steps
returns-in-Fine-clause-steps c =
    let P = c.args.lookups.now in
    let good = subst IsProblem c.lookups.view_is c.count-routers.ensures.rules in
    let old = c.args.board.now in
    let offered = sym c.is_offered.ensures ∙ c.if-not-is_offered.false in
    let nothing = c.in_ok-nothing_comes.ensures c.if-not-branch.false None c.requires.outlook in
    let step = clear_taken P good old c.requires.board c.args.router c.requires.router offered nothing
    (sym c.is_open.ensures ∙ c.if-not-is_open.false) c.settle.new.board c.in_ok-settle.field-0 c.in_ok-settle.ensures.settled in
    subst (λ (o : Outcome). SearchSteps P old c.settle.new.board (look_of o)) c.in-Fine.is step

pub returns-in-Fine-clause-outlook : goal.returns-in-Fine-clause-outlook
returns-in-Fine-clause-outlook c =
    let P = c.args.lookups.now in
    let good = subst IsProblem c.lookups.view_is c.count-routers.ensures.rules in
    let old = c.args.board.now in
    let offered = sym c.is_offered.ensures ∙ c.if-not-is_offered.false in
    let nothing = c.in_ok-nothing_comes.ensures c.if-not-branch.false None c.requires.outlook in
    λ t. foresees_on P good old c.requires.board c.args.router c.requires.router offered nothing
    (sym c.is_open.ensures ∙ c.if-not-is_open.false) c.settle.new.board c.in_ok-settle.field-0 c.in_ok-settle.ensures.settled
    c.args.outlook.now.table.items c.requires.outlook

pub returns-in-Upset-clause-steps : goal.returns-in-Upset-clause-steps
returns-in-Upset-clause-steps c =
    let P = c.args.lookups.now in
    let good = subst IsProblem c.lookups.view_is c.count-routers.ensures.rules in
    let old = c.args.board.now in
    let offered = sym c.is_offered.ensures ∙ c.if-not-is_offered.false in
    let nothing = c.in_ok-nothing_comes.ensures c.if-not-branch.false None c.requires.outlook in
    let step = clear_taken P good old c.requires.board c.args.router c.requires.router offered nothing
    (sym c.is_open.ensures ∙ c.if-not-is_open.false) c.settle.new.board c.in_ok-settle.field-0 c.in_ok-settle.ensures.settled in
    subst (λ (o : Outcome). SearchSteps P old c.settle.new.board (look_of o)) c.in-Upset.is step
