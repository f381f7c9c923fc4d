use Rattle.std.proofs.Common.{◌<◌, ◌∙◌, List, length, ap, subst, sym, arith}
use Rattle.srp_core.specs.Problem.{Problem, IsProblem}
use Rattle.srp_core.specs.declared.route.Act.{Act}
use Rattle.solution_search.specs.declared.ahead.foreseen.Foreseen.{Foreseen}
use Rattle.solution_search.specs.Boards.{state_of, is_tied}
use Rattle.solution_search.specs.Outlooks.{IsForeseen, IsImage}
use Rattle.solution_search.proofs.Outlooking.{act_is, list_is, followed_none, followed_stopped, followed_found}
use Rattle.solution_search.proofs.ahead.outlook.is_followed_over.Goals as goal

pub returns-in-None : goal.returns-in-None
returns-in-None c =
    let P = c.args.lookups.now in
    let good = subst IsProblem c.lookups.view_is c.count-routers.ensures.rules in
    let act = act_is P c.acts.result.now c.args.act c.index-acts-act.result c.index-acts-act.is
    (c.acts.ensures ∙ ap (λ (p : Problem). p.acts) c.lookups.view_is) c.requires.act in
    let image = subst (λ (a : Act). IsImage a c.args.from.now c.in_ok-image_of.field-0) (sym act) c.in_ok-image_of.ensures in
    λ t. followed_none P good (is_tied c.args.board.now) (state_of c.args.board.now) c.requires.board.state c.args.without c.args.table.now c.args.importer
    c.args.act c.args.from.now c.in_ok-image_of.field-0 image c.in-None.is

pub returns-then-not-may_pass : goal.returns-then-not-may_pass
returns-then-not-may_pass c =
    let P = c.args.lookups.now in
    let good = subst IsProblem c.lookups.view_is c.count-routers.ensures.rules in
    let act = act_is P c.acts.result.now c.args.act c.index-acts-act.result c.index-acts-act.is
    (c.acts.ensures ∙ ap (λ (p : Problem). p.acts) c.lookups.view_is) c.requires.act in
    let image = subst (λ (a : Act). IsImage a c.args.from.now c.in_ok-image_of.field-0) (sym act) c.in_ok-image_of.ensures in
    λ t. followed_stopped P good (is_tied c.args.board.now) (state_of c.args.board.now) c.requires.board.state c.args.without c.args.table.now c.args.importer
    c.args.act c.args.from.now c.in_ok-image_of.field-0 image c.in-Some.image c.in-Some.is c.requires.importer
    (sym c.may_pass.ensures ∙ c.if-not-may_pass.true)

pub returns-else-not-may_pass : goal.returns-else-not-may_pass
returns-else-not-may_pass c =
    let P = c.args.lookups.now in
    let good = subst IsProblem c.lookups.view_is c.count-routers.ensures.rules in
    let act = act_is P c.acts.result.now c.args.act c.index-acts-act.result c.index-acts-act.is
    (c.acts.ensures ∙ ap (λ (p : Problem). p.acts) c.lookups.view_is) c.requires.act in
    let image = subst (λ (a : Act). IsImage a c.args.from.now c.in_ok-image_of.field-0) (sym act) c.in_ok-image_of.ensures in
    let total = c.requires.table in
    let inside = c.requires.importer in
    let less : c.args.importer < length c.args.table.now = omega (arith, total, inside) in
    let list = list_is c.args.table.now c.args.importer c.index-table-importer.result c.as_slice-list.result.now c.index-table-importer.is less
    c.as_slice-list.ensures in
    λ t. followed_found P good (is_tied c.args.board.now) (state_of c.args.board.now) c.requires.board.state c.args.without c.args.table.now c.args.importer
    c.args.act c.args.from.now c.in_ok-image_of.field-0 image c.in-Some.image c.in-Some.is
    (λ route comms size. subst (λ (l : List Foreseen). IsForeseen l route) list (c.is_among.ensures t route comms size))
