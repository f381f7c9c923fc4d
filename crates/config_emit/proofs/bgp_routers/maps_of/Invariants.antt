use Rattle.std.proofs.Common.{◌≡◌, ◌+◌, ◌++◌, drop, map}
use Rattle.std.specs.List.{enumerate_from}
use Rattle.config_emit.specs.GroupMaps.{plains_now}
use Rattle.config_emit.specs.Maps.{written_map}
use Rattle.config_emit.proofs.bgp_routers.maps_of.Given as goal

abbrev pub invariant-loop-i : goal.invariant-loop-i
invariant-loop-i l = l.found ++ map (written_map l.number) (enumerate_from (l.i + 1) (plains_now (drop l.i l.uses))) ≡ map (written_map l.number)
    (enumerate_from 1 (plains_now l.uses))
