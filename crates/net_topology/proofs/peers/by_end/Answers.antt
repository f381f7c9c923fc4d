use Rattle.std.proofs.Common.{get_or}
use Rattle.std.proofs.lemmas.List.{get_or_default}
use Rattle.net_topology.specs.declared.peers.Peer.{Peer}
use Rattle.net_topology.specs.Peers.{own_end}
use Rattle.buckets.proofs.PushedItems.{index_turn}
use Rattle.net_topology.proofs.peers.by_end.Goals as goal

pub loop-peer-preserved : goal.loop-peer-preserved
loop-peer-preserved c =
    let none : Peer = record { router = 0; item = 0; number = 0; remote = 0; addr = 0 } in
    let x = get_or c.args.peers.now c.loop-peer.peer-index none in
    index_turn own_end c.loop-peer.index c.push_at.new.index c.args.peers.now c.loop-peer.peer-index x c.loop-peer-test.true
    (get_or_default c.args.peers.now c.loop-peer.peer-index none x c.loop-peer-test.true) c.in_ok-push_at.ensures c.loop-peer.invariant
