use Rattle.std.proofs.Common.{◌≡◌, drop}
use Rattle.route_maps.specs.Maps.{verdict}
use Rattle.route_maps.proofs.verdict.apply.Given as goal

abbrev pub invariant-loop-entry : goal.invariant-loop-entry
invariant-loop-entry l = verdict (drop l.entry-index l.map.entries) l.comms ≡ verdict l.map.entries l.comms
