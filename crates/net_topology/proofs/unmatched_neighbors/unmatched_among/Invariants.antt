use Rattle.std.proofs.Common.{◌≡◌, ◌++◌, drop, filter_map, flat_map}
use Rattle.std.specs.List.{enumerate_from}
use Rattle.cfg_ast.specs.meaning.Topology.{places_on, neighbors_of}
use Rattle.net_topology.specs.Alone.{unmatched_spot}
use Rattle.net_topology.proofs.unmatched_neighbors.unmatched_among.Given as goal

abbrev pub invariant-loop-r : goal.invariant-loop-r
invariant-loop-r l = l.found ++ filter_map (unmatched_spot l.ups.all.items l.peers.all.items)
    (flat_map (places_on neighbors_of) (enumerate_from l.r (drop l.r l.routers))) ≡ filter_map (unmatched_spot l.ups.all.items l.peers.all.items)
    (flat_map (places_on neighbors_of) (enumerate_from 0 l.routers))
