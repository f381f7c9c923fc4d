use Rattle.std.proofs.Common.{take}
use Rattle.config_emit.specs.Spots.{AreSpots}
use Rattle.config_emit.proofs.class_interfaces.spots_of.Given as goal

abbrev pub invariant-loop-interface : goal.invariant-loop-interface
invariant-loop-interface l = AreSpots l.protocol l.index.router.now l.spots (take l.interface-index l.interfaces)
