use Rattle.std.proofs.Common.{◌<◌, ◌≤◌, length, map, sym, ◌∙◌, subst, arith}
use Rattle.std.proofs.lemmas.List.{length-map, length-set, length-take}
use Rattle.srp_build.specs.Costs.{NumbersHops}
use Rattle.srp_build.specs.PlacedEdges.{hop_of}
use Rattle.srp_build.proofs.EdgeNumbers.{numbered_edge, rest_next, all_numbered}
use Rattle.srp_build.proofs.costs.number_edges.Goals as goal

pub act_of-requires-clause-few : goal.act_of-requires-clause-few
act_of-requires-clause-few c =
    let few = c.loop-place.invariant.numbered.numbers.few in
    let done = length-take c.loop-place.place (map hop_of c.args.edges.items) in
    let size = length-map c.args.edges.items hop_of in
    let most = c.requires in
    omega arith

pub loop-place-preserved : goal.loop-place-preserved
loop-place-preserved c =
    let before = c.loop-place.invariant in
    let size = before.size in
    let inside : c.loop-place.place < length c.args.edges.items = omega arith in
    record {
      size = length-set _ _ _ ∙ size;
      numbered = numbered_edge c.args.routers.now c.loop-place.costs _ c.args.edges.items c.loop-place.edges.items c.loop-place.place c.in_ok-act.act
          c.index.result.now c.hop_of-hop.result c.loop-place.last size inside c.index.ensures c.hop_of-hop.ensures before.rest before.numbered
          c.in_ok-act.ensures.found c.in_ok-act.ensures.grown c.in_ok-act.ensures.distinct;
      rest = rest_next c.args.routers.now c.args.edges.items c.loop-place.edges.items c.loop-place.place _ before.rest;
    }

pub returns : goal.returns
returns c =
    let past : length c.args.edges.items ≤ c.loop-place.place = omega arith in
    subst (NumbersHops c.args.routers.now c.loop-place.costs (map hop_of c.args.edges.items)) (sym c.from_vec.ensures)
    (all_numbered c.args.routers.now c.loop-place.costs c.args.edges.items c.loop-place.edges.items c.loop-place.place c.loop-place.last
    c.loop-place.invariant.size past c.loop-place.invariant.numbered)
