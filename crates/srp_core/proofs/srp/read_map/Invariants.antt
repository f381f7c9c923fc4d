use Rattle.std.proofs.Common.{take}
use Rattle.srp_core.specs.Acts.{MapsToSets}
use Rattle.srp_core.proofs.srp.read_map.Given as goal

abbrev pub invariant-loop-entry : goal.invariant-loop-entry
invariant-loop-entry l = MapsToSets (take l.entry-index l.map.entries)
