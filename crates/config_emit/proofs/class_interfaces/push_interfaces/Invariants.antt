use Rattle.std.proofs.Common.{◌≡◌, ◌+◌, ◌++◌, drop, filter_map}
use Rattle.std.specs.List.{enumerate_from}
use Rattle.config_emit.specs.Spots.{served_at}
use Rattle.config_emit.proofs.class_interfaces.push_interfaces.Given as goal

abbrev pub invariant-loop-i : goal.invariant-loop-i
invariant-loop-i l = l.found ++ filter_map (served_at l.spots) (enumerate_from (l.i + 1) (drop l.i l.prefixes)) ≡ l.initial.found
    ++ filter_map (served_at l.spots) (enumerate_from 1 l.prefixes)
