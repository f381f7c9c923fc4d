use Rattle.std.proofs.Common.{◌≡◌, ◌++◌, drop, filter_map, map}
use Rattle.std.specs.List.{enumerate_from}
use Rattle.cfg_ast.specs.meaning.Topology.{place_on}
use Rattle.net_topology.specs.Spots.{spot_of}
use Rattle.net_topology.proofs.adjacencies.push_spots_in.Given as goal

abbrev pub invariant-loop-i : goal.invariant-loop-i
invariant-loop-i l = l.found.items ++ filter_map spot_of
    (map (place_on l.router l.index.router.now) (enumerate_from l.i (drop l.i l.interfaces))) ≡ l.initial.found.items
    ++ filter_map spot_of (map (place_on l.router l.index.router.now) (enumerate_from 0 l.interfaces))
