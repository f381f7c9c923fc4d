use Rattle.std.proofs.Common.{◌≡◌, ◌+◌, ◌++◌, drop, flat_map}
use Rattle.std.specs.List.{enumerate_from}
use Rattle.config_emit.specs.GroupMaps.{plains_now}
use Rattle.config_emit.specs.Maps.{lists_of_map}
use Rattle.config_emit.proofs.bgp_routers.lists_of.Given as goal

abbrev pub invariant-loop-i : goal.invariant-loop-i
invariant-loop-i l = l.lists ++ flat_map lists_of_map (enumerate_from (l.i + 1) (plains_now (drop l.i l.uses))) ≡ flat_map lists_of_map
    (enumerate_from 1 (plains_now l.uses))
