use Rattle.std.proofs.Common.{◌≡◌, ◌++◌, drop, filter_map, map}
use Rattle.std.specs.List.{enumerate_from}
use Rattle.cfg_ast.specs.meaning.Topology.{place_on}
use Rattle.net_topology.specs.Peers.{peer_at_place}
use Rattle.net_topology.proofs.peers.push_peers.Given as goal

abbrev pub invariant-loop-i : goal.invariant-loop-i
invariant-loop-i l = l.found.items ++ filter_map peer_at_place (map (place_on l.router l.owner) (enumerate_from l.i (drop l.i l.neighbors)))
    ≡ l.initial.found.items ++ filter_map peer_at_place (map (place_on l.router l.owner) (enumerate_from 0 l.neighbors))
