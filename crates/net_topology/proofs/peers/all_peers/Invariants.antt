use Rattle.std.proofs.Common.{◌≡◌, ◌++◌, drop, filter_map, flat_map}
use Rattle.std.specs.List.{enumerate_from}
use Rattle.cfg_ast.specs.meaning.Topology.{places_on, neighbors_of}
use Rattle.net_topology.specs.Peers.{peer_at_place, peers}
use Rattle.net_topology.proofs.peers.all_peers.Given as goal

abbrev pub invariant-loop-r : goal.invariant-loop-r
invariant-loop-r l = l.found.items ++ filter_map peer_at_place (flat_map (places_on neighbors_of) (enumerate_from l.r (drop l.r l.routers))) ≡ peers l.network
