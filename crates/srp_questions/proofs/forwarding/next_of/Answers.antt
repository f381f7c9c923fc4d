use Rattle.std.proofs.Common.{◌≡◌, ◌∙◌, sym, subst, arith, Some}
use Rattle.srp_core.specs.Stability.{label}
use Rattle.route_offers.proofs.OwnEdges.{own_fit}
use Rattle.srp_questions.specs.NextHops.{AreNextOf}
use Rattle.srp_questions.proofs.Exporters.{next_are}
use Rattle.srp_questions.proofs.ReadLabels.{if_ok, read_at}
use Rattle.srp_questions.proofs.forwarding.next_of.Goals as goal

pub tied_exporters-requires-clause-edges : goal.tied_exporters-requires-clause-edges
tied_exporters-requires-clause-edges c = own_fit c.args.srp.now c.args.router c.args.edges.now c.count-known.ensures.rules c.requires.own

pub returns-in-Some : goal.returns-in-Some
returns-in-Some c =
    let P = c.args.srp.now in
    let L = c.args.labels.now in
    let u = c.args.router in
    let r = c.in-Some.route in
    let labelled : label c.args.labels.now c.args.router ≡ Some c.in-Some.route = read_at L c.as_slice.result.now u c.index-as_slice-router.result
    c.as_slice.ensures.all (omega (arith, c.requires.router, c.requires.labels.total)) c.index-as_slice-router.is ∙ c.in-Some.is in
    if_ok c.tied_exporters.result (λ next is. subst (AreNextOf P L u) (sym is) (next_are P L r u c.args.edges.now c.requires.own labelled))
    c.tied_exporters.ensures
