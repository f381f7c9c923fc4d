use Rattle.std.proofs.Common.{take}
use Rattle.net_topology.specs.Ups.{attachment_of, same_attachment, IsLookup}
use Rattle.net_topology.proofs.ups.by_attachment.Given as goal

abbrev pub invariant-loop-up : goal.invariant-loop-up
invariant-loop-up l = IsLookup same_attachment attachment_of l.lookup (take l.up-index l.ups)
