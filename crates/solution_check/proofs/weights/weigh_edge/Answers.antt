use Rattle.std.proofs.Common.{◌≡◌, ◌∙◌, ◌<◌, refl, sym, ap, subst, arith, length, get_or, List, Option, Some, None}
use Rattle.std.proofs.lemmas.List.{get_or_default}
use Rattle.srp_core.specs.declared.route.Route.{Route}
use Rattle.srp_core.specs.declared.route.Route.TheVariants.{Ospf}
use Rattle.srp_core.specs.Candidates.{over}
use Rattle.srp_core.specs.Problem.{number}
use Rattle.srp_core.specs.Stability.{label}
use Rattle.route_offers.specs.declared.offers.Offer.{Offer}
use Rattle.route_offers.specs.declared.offers.Offer.TheVariants.{Import}
use Rattle.route_offers.specs.Offers.{offered}
use Rattle.solution_check.specs.Offers.{one, WeighsAs}
use Rattle.solution_check.proofs.Weighed.{if_ok, bare_weighs}
use Rattle.solution_check.proofs.weights.weigh_edge.Goals as goal

pub returns-in-Cost : goal.returns-in-Cost
returns-in-Cost c =
    let P = c.args.srp.now in
    let L = c.args.labels.now in
    let e = c.args.edge.now in
    let found : over P L e ≡ Some (Ospf c.in-Cost.cost) = sym c.in_ok-offer_over.ensures.exact
    ∙ ap (λ (o : Offer). offered o (label L e.exporter) (number P e.exporter)) c.in-Cost.is in
    if_ok c.weigh_bare.result (bare_weighs P c.args.route.now (Ospf c.in-Cost.cost) (over P L e) c.args.other.now found refl c.requires.other)
    c.weigh_bare.ensures

pub weigh_from-requires-clause-from : goal.weigh_from-requires-clause-from
weigh_from-requires-clause-from c =
    let L = c.args.labels.now in
    let e = c.args.edge.now in
    let same = ap (λ (l : List (Option Route)). length l) c.as_slice.ensures.all in
    let inside : e.exporter < length c.as_slice.result.now = omega (arith, c.requires.edge.exporter_in, c.requires.labels.total, same) in
    sym (get_or_default c.as_slice.result.now e.exporter c.index-as_slice-edge.result None inside
    ∙ ap (λ (l : List (Option Route)). get_or l e.exporter None) c.as_slice.ensures.all) ∙ sym c.index-as_slice-edge.is ∙ c.in-Some.is

pub returns-in-Some : goal.returns-in-Some
returns-in-Some c =
    let P = c.args.srp.now in
    let L = c.args.labels.now in
    let e = c.args.edge.now in
    let same = ap (λ (l : List (Option Route)). length l) c.as_slice.ensures.all in
    let inside : e.exporter < length c.as_slice.result.now = omega (arith, c.requires.edge.exporter_in, c.requires.labels.total, same) in
    let labelled : label L e.exporter ≡ Some c.in-Some.from =
    sym (get_or_default c.as_slice.result.now e.exporter c.index-as_slice-edge.result None inside
    ∙ ap (λ (l : List (Option Route)). get_or l e.exporter None) c.as_slice.ensures.all) ∙ sym c.index-as_slice-edge.is ∙ c.in-Some.is in
    let found : offered (Import c.in-Import.imported) (Some c.in-Some.from) (number P e.exporter) ≡ over P L e =
    sym (sym c.in_ok-offer_over.ensures.exact ∙ ap (λ (o : Offer). offered o (label L e.exporter) (number P e.exporter)) c.in-Import.is
    ∙ ap (λ (l : Option Route). offered (Import c.in-Import.imported) l (number P e.exporter)) labelled) in
    if_ok c.weigh_from.result (λ w is. subst (λ (o : Option Route). WeighsAs P c.args.route.now (one o) w) found is) c.weigh_from.ensures
