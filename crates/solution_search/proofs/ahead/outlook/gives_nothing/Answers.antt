use Rattle.std.proofs.Common.{◌∙◌, ap, subst, sym}
use Rattle.srp_core.specs.Problem.{Problem, IsProblem}
use Rattle.srp_core.specs.declared.route.Act.{Act}
use Rattle.solution_search.specs.Boards.{state_of, is_tied}
use Rattle.solution_search.specs.Outlooks.{IsImage}
use Rattle.solution_search.proofs.Outlooking.{act_is, not_true, gives_none, gives_stopped}
use Rattle.solution_search.proofs.ahead.outlook.gives_nothing.Goals as goal

pub returns-in-None : goal.returns-in-None
returns-in-None c =
    let P = c.args.lookups.now in
    let good = subst IsProblem c.lookups.view_is c.count-routers.ensures.rules in
    let act = act_is P c.acts.result.now c.args.edge.act c.index-acts-edge.result c.index-acts-edge.is
    (c.acts.ensures ∙ ap (λ (p : Problem). p.acts) c.lookups.view_is) c.requires.act in
    let image = subst (λ (a : Act). IsImage a c.args.from.now c.in_ok-image_of.field-0) (sym act) c.in_ok-image_of.ensures in
    λ t. gives_none P good (is_tied c.args.board.now) (state_of c.args.board.now) c.requires.board.state c.args.edge c.args.from.now c.in_ok-image_of.field-0
    image c.in-None.is

pub returns-in-Some : goal.returns-in-Some
returns-in-Some c =
    let P = c.args.lookups.now in
    let good = subst IsProblem c.lookups.view_is c.count-routers.ensures.rules in
    let act = act_is P c.acts.result.now c.args.edge.act c.index-acts-edge.result c.index-acts-edge.is
    (c.acts.ensures ∙ ap (λ (p : Problem). p.acts) c.lookups.view_is) c.requires.act in
    let image = subst (λ (a : Act). IsImage a c.args.from.now c.in_ok-image_of.field-0) (sym act) c.in_ok-image_of.ensures in
    λ t. gives_stopped P good (is_tied c.args.board.now) (state_of c.args.board.now) c.requires.board.state c.args.edge c.requires.importer
    c.requires.unsettled c.args.from.now c.in_ok-image_of.field-0 image c.in-Some.image c.in-Some.is (sym c.may_pass.ensures ∙ not_true c.may_pass.result t)
