use Rattle.std.proofs.Common.{take, nat_eq}
use Rattle.net_topology.specs.Ups.{addr_of, IsLookup}
use Rattle.net_topology.proofs.ups.by_addr.Given as goal

abbrev pub invariant-loop-up : goal.invariant-loop-up
invariant-loop-up l = IsLookup nat_eq addr_of l.lookup (take l.up-index l.ups)
