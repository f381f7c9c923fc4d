use Rattle.std.proofs.Common.{get_or}
use Rattle.std.proofs.lemmas.List.{get_or_default}
use Rattle.net_topology.specs.declared.adjacencies.Spot.{Spot}
use Rattle.net_topology.specs.Spots.{pair_of}
use Rattle.buckets.proofs.PushedItems.{index_turn}
use Rattle.net_topology.proofs.adjacencies.by_subnet.Goals as goal

pub loop-spot-preserved : goal.loop-spot-preserved
loop-spot-preserved c =
    let none : Spot = record { router = 0; item = 0; len = 0; first = 0 } in
    let x = get_or c.args.spots.now c.loop-spot.spot-index none in
    index_turn pair_of c.loop-spot.index c.push_at.new.index c.args.spots.now c.loop-spot.spot-index x c.loop-spot-test.true
    (get_or_default c.args.spots.now c.loop-spot.spot-index none x c.loop-spot-test.true) c.in_ok-push_at.ensures c.loop-spot.invariant
