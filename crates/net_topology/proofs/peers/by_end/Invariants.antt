use Rattle.std.proofs.Common.{take}
use Rattle.net_topology.specs.Peers.{own_end}
use Rattle.buckets.specs.Buckets.{IsIndex}
use Rattle.net_topology.proofs.peers.by_end.Given as goal

abbrev pub invariant-loop-peer : goal.invariant-loop-peer
invariant-loop-peer l = IsIndex own_end l.index (take l.peer-index l.peers)
