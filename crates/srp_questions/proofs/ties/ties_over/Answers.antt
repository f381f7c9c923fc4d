use Rattle.std.proofs.Common.{◌≡◌, ◌∙◌, sym, ap, Some}
use Rattle.srp_core.specs.declared.route.Route.TheVariants.{Ospf}
use Rattle.srp_core.specs.Candidates.{over}
use Rattle.srp_core.specs.Problem.{number}
use Rattle.srp_core.specs.Stability.{label}
use Rattle.route_offers.specs.declared.offers.Offer.{Offer}
use Rattle.route_offers.specs.Offers.{offered}
use Rattle.srp_questions.proofs.EqualKeys.{cost_has_key}
use Rattle.srp_questions.proofs.ReadLabels.{if_ok}
use Rattle.srp_questions.proofs.ties.ties_over.Goals as goal

pub returns-in-Cost : goal.returns-in-Cost
returns-in-Cost c =
    let P = c.args.srp.now in
    let L = c.args.labels.now in
    let e = c.args.edge.now in
    let found : over P L e ≡ Some (Ospf c.in-Cost.cost) = sym c.in_ok-offer_over.ensures.exact
    ∙ ap (λ (o : Offer). offered o (label L e.exporter) (number P e.exporter)) c.in-Cost.is in
    if_ok c.cost_ties.result (cost_has_key P c.args.route.now (over P L e) c.args.other.now c.in-Cost.cost found c.requires.other) c.cost_ties.ensures
