use Rattle.std.proofs.Common.{◌≡◌, take, flat_map}
use Rattle.net_topology.specs.Spots.{links_in}
use Rattle.net_topology.proofs.adjacencies.links_of.Given as goal

abbrev pub invariant-loop-p : goal.invariant-loop-p
invariant-loop-p l = l.found ≡ flat_map (links_in l.spots) (take l.p-index l.spots)
