use Rattle.std.proofs.Common.{◌≡◌, ◌∙◌, ℕ, sym, ap, arith, get_or, List, Some, nat_eq}
use Rattle.std.specs.HashSet.{contains}
use Rattle.srp_core.specs.declared.route.Route.{Route}
use Rattle.srp_core.specs.declared.route.Route.TheVariants.{Bgp}
use Rattle.srp_core.specs.Acts.{arrived}
use Rattle.srp_core.specs.Problem.{number}
use Rattle.route_offers.specs.declared.offers.Offer.TheVariants.{Import}
use Rattle.route_offers.specs.Offers.{offered}
use Rattle.route_offers.proofs.OfferKeys.{lone_at}
use Rattle.srp_questions.proofs.EqualKeys.{import_has_key}
use Rattle.srp_questions.proofs.ReadLabels.{if_ok}
use Rattle.srp_questions.proofs.ties.import_over_ties.Goals as goal

pub returns-in-Bgp : goal.returns-in-Bgp
returns-in-Bgp c =
    let P = c.args.srp.now in
    let L = c.args.labels.now in
    let e = c.args.edge.now in
    let lone = c.args.lone.now in
    let imported = c.args.imported.now in
    let path = c.as_slice-in-Bgp.result.now in
    let from = get_or c.numbers.result.now e.exporter 0 in
    let from_is : c.args.from.now ≡ Bgp c.in-Bgp.lp path c.in-Bgp.comms = c.in-Bgp.is
    ∙ ap (λ (p : List ℕ). Bgp c.in-Bgp.lp p c.in-Bgp.comms) (sym c.as_slice-in-Bgp.ensures) in
    let labelled = c.requires.from ∙ ap (λ (r : Route). Some r) from_is in
    let numbered : number P e.exporter ≡ from = ap (λ (ns : List ℕ). get_or ns e.exporter 0) (sym c.numbers.ensures) in
    let found : offered (Import imported) (Some c.args.from.now) (number P e.exporter) ≡ Some (arrived from path imported) =
    ap (λ (r : Route). offered (Import imported) (Some r) (number P e.exporter)) from_is ∙ ap (λ (n : ℕ). Some (arrived n path imported)) numbered in
    let rest = c.index-as_slice-edge.result in
    let rests = lone_at P L lone.paths e.exporter rest c.in-Bgp.lp path c.in-Bgp.comms (omega (arith, c.requires.edge.exporter_in, c.requires.labels.total))
    c.requires.lone.paths (c.index-as_slice-edge.is ∙ ap (λ (ps : List (List ℕ)). get_or ps e.exporter rest) c.as_slice.ensures) labelled in
    if_ok c.import_ties.result (import_has_key P c.args.route.now (offered (Import imported) (Some c.args.from.now) (number P e.exporter)) c.args.other.now from
    path imported (contains nat_eq lone.numbers from) rest found (c.requires.lone.numbers from) rests c.requires.other) c.import_ties.ensures
