use Rattle.std.proofs.Common.{ap, ◌∙◌, ◌++◌, filter_map, map}
use Rattle.std.specs.List.{enumerate_from}
use Rattle.cfg_ast.specs.meaning.Topology.{place_on, neighbors_of}
use Rattle.net_topology.specs.Alone.{unmatched_spot}
use Rattle.net_topology.proofs.PlaceSteps.{router_turn}
use Rattle.net_topology.proofs.unmatched_neighbors.unmatched_among.Goals as goal

pub loop-r-preserved : goal.loop-r-preserved
loop-r-preserved c =
    let x = c.index-routers-r.result in
    let spot = unmatched_spot c.args.ups.now.all.items c.args.peers.now.all.items in
    let pushed = c.in_ok-push_unmatched.ensures ∙ ap (λ r. c.loop-r.found ++ filter_map spot (map (place_on r x) (enumerate_from 0 (neighbors_of x))))
    c.place-router.ensures in
    router_turn neighbors_of spot c.loop-r.found c.push_unmatched.new.found _ c.args.routers.now c.loop-r.r x c.loop-r-test.true c.index-routers-r.is pushed
    c.loop-r.invariant
