use Rattle.std.proofs.Common.{◌≡◌, ◌++◌, drop, filter_map, map}
use Rattle.std.specs.List.{enumerate_from}
use Rattle.cfg_ast.specs.meaning.Topology.{place_on}
use Rattle.net_topology.specs.Alone.{unmatched_spot}
use Rattle.net_topology.proofs.unmatched_neighbors.push_unmatched.Given as goal

abbrev pub invariant-loop-i : goal.invariant-loop-i
invariant-loop-i l = l.found ++ filter_map (unmatched_spot l.ups.all.items l.peers.all.items)
    (map (place_on l.router l.owner) (enumerate_from l.i (drop l.i l.neighbors))) ≡ l.initial.found
    ++ filter_map (unmatched_spot l.ups.all.items l.peers.all.items) (map (place_on l.router l.owner) (enumerate_from 0 l.neighbors))
