use Rattle.std.proofs.Common.{take}
use Rattle.net_topology.specs.Spots.{pair_of}
use Rattle.buckets.specs.Buckets.{IsIndex}
use Rattle.net_topology.proofs.adjacencies.by_subnet.Given as goal

abbrev pub invariant-loop-spot : goal.invariant-loop-spot
invariant-loop-spot l = IsIndex pair_of l.index (take l.spot-index l.spots)
