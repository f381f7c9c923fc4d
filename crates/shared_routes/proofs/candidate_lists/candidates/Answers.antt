use Rattle.std.proofs.Common.{◌≡◌, ◌<◌, ◌++◌, All, List, length, Option, Some, ap, sym, ◌∙◌, subst, inl, arith}
use Rattle.std.specs.Prelude.{slice_index_or, Contains}
use Rattle.std.proofs.lemmas.List.{get_or_default}
use Rattle.std.proofs.lemmas.List.Elements.{All-contains_itself}
use Rattle.base_kit.specs.declared.act_graph.Edge.{Edge}
use Rattle.srp_core.specs.declared.route.Candidate.{Candidate}
use Rattle.srp_core.specs.declared.route.Route.{Route}
use Rattle.srp_core.specs.Candidates.{candidate_of, AreOwnEdges}
use Rattle.srp_core.specs.Routes.{IsRouteOf}
use Rattle.srp_core.proofs.CandidateLists.{row_step}
use Rattle.srp_core.proofs.OwnEdges.{begun, ended, candidate_routes}
use Rattle.shared_routes.proofs.candidate_lists.candidates.Goals as goal

pub loop-place-init : goal.loop-place-init
loop-place-init c =
    let own = subst (λ (l : List Edge). AreOwnEdges l c.args.router c.own_edges-first.result.0 c.own_edges-first.result.1) c.edges-edges.ensures
    c.own_edges-first.ensures in
    begun c.args.srp.now c.args.labels.now c.args.router c.own_edges-first.result.0 c.own_edges-first.result.1 c.in_ok-found.found.items own
    c.in_ok-found.ensures

pub over-requires-clause-edge : goal.over-requires-clause-edge
over-requires-clause-edge c =
    let edges = c.edges-edges.result.now in
    let none : Edge = record { importer = 0; exporter = 0; act = 0; link = 0 } in
    let inside = c.own_edges-first.ensures.inside in
    let less = c.loop-place-test.true in
    let here : c.loop-place.place < length edges = omega (arith, inside, less) in
    c.count-known.ensures.rules.edges.inside (slice_index_or edges c.loop-place.place none)
    (subst (λ (l : List Edge). Contains l (slice_index_or edges c.loop-place.place none)) c.edges-edges.ensures
    (All-contains_itself edges c.loop-place.place none here))

pub loop-place-preserved : goal.loop-place-preserved
loop-place-preserved c =
    let P = c.args.srp.now in
    let edges = c.edges-edges.result.now in
    let place = c.loop-place.place in
    let none : Edge = record { importer = 0; exporter = 0; act = 0; link = 0 } in
    let edge : Edge = slice_index_or edges place none in
    let inside = c.own_edges-first.ensures.inside in
    let less = c.loop-place-test.true in
    let here : place < length edges = omega (arith, inside, less) in
    let total = ap (λ (l : List Edge). length l) c.edges-edges.ensures in
    let there : place < length P.edges = omega (arith, here, total) in
    let read : edge ≡ slice_index_or P.edges place edge = get_or_default edges place none edge here
    ∙ ap (λ (l : List Edge). slice_index_or l place edge) c.edges-edges.ensures in
    let own : edge.importer ≡ c.args.router = c.own_edges-first.ensures.own place none c.loop-place.auto.place less in
    row_step P c.args.labels.now c.args.router place c.loop-place.found.items c.add.new.found.items _ edge there read c.loop-place.invariant
    (inl (own, c.in_ok-add.ensures ∙ ap (λ (o : Option Route). c.loop-place.found.items ++ candidate_of (Some place) o) c.in_ok-route.ensures))

pub returns-clause-list : goal.returns-clause-list
returns-clause-list c =
    let own = subst (λ (l : List Edge). AreOwnEdges l c.args.router c.own_edges-first.result.0 c.own_edges-first.result.1) c.edges-edges.ensures
    c.own_edges-first.ensures in
    let forward = own.forward in
    ended c.args.srp.now c.args.labels.now c.args.router c.own_edges-first.result.0 c.own_edges-first.result.1 c.loop-place.place c.loop-place.found.items own
    (omega (arith, forward)) c.loop-place.invariant

pub returns-clause-routes : goal.returns-clause-routes
returns-clause-routes c =
    let P = c.args.srp.now in
    let own = subst (λ (l : List Edge). AreOwnEdges l c.args.router c.own_edges-first.result.0 c.own_edges-first.result.1) c.edges-edges.ensures
    c.own_edges-first.ensures in
    let forward = own.forward in
    let list = ended P c.args.labels.now c.args.router c.own_edges-first.result.0 c.own_edges-first.result.1 c.loop-place.place c.loop-place.found.items own
    (omega (arith, forward)) c.loop-place.invariant in
    subst (λ (l : List Candidate). All (λ (k : Candidate). IsRouteOf P.protocol k.route) l) (sym list)
    (candidate_routes P c.count-known.ensures.rules c.args.labels.now c.args.router c.requires.labels)
