use Rattle.std.proofs.Common.{◌≡◌, ◌++◌, drop, filter_map, flat_map}
use Rattle.std.specs.List.{enumerate_from}
use Rattle.cfg_ast.specs.meaning.Topology.{places_on, interfaces_of}
use Rattle.net_topology.specs.Spots.{spot_of, spots}
use Rattle.net_topology.proofs.adjacencies.spots.Given as goal

abbrev pub invariant-loop-r : goal.invariant-loop-r
invariant-loop-r l = l.found.items ++ filter_map spot_of (flat_map (places_on interfaces_of) (enumerate_from l.r (drop l.r l.routers))) ≡ spots l.network
