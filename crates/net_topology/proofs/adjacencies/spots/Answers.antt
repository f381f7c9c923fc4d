use Rattle.std.proofs.Common.{ap, ◌∙◌, List, ◌++◌, filter_map, flat_map, map}
use Rattle.std.specs.List.{enumerate_from}
use Rattle.cfg_ast.specs.declared.network.Router.{Router}
use Rattle.cfg_ast.specs.meaning.Topology.{places_on, place_on, interfaces_of}
use Rattle.net_topology.specs.Spots.{spot_of}
use Rattle.net_topology.proofs.PlaceSteps.{router_turn, spots_first}
use Rattle.net_topology.proofs.adjacencies.spots.Goals as goal

pub loop-r-init : goal.loop-r-init
loop-r-init c =
    ap (λ xs. xs ++ filter_map spot_of (flat_map (places_on interfaces_of) (enumerate_from 0 c.as_slice-routers.result.now))) c.new-found.ensures.items
    ∙ ap (λ (rs : List Router). filter_map spot_of (flat_map (places_on interfaces_of) (enumerate_from 0 rs))) c.as_slice-routers.ensures
    ∙ spots_first c.args.network.now

pub loop-r-preserved : goal.loop-r-preserved
loop-r-preserved c =
    let x = c.index-routers-r.result in
    let pushed = c.in_ok-push_spots.ensures ∙ ap (λ r. c.loop-r.found.items ++ filter_map spot_of (map (place_on r x) (enumerate_from 0 (interfaces_of x))))
    c.place-router.ensures in
    router_turn interfaces_of spot_of c.loop-r.found.items c.push_spots.new.found.items _ c.as_slice-routers.result.now c.loop-r.r x c.loop-r-test.true
    c.index-routers-r.is pushed c.loop-r.invariant
