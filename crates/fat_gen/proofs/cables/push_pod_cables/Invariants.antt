use Rattle.std.proofs.Common.{◌≡◌, ◌++◌, ◌-◌, flat_map}
use Rattle.std.specs.List.{range_with_len}
use Rattle.fat_gen.specs.Cables.{switch_cables, pod_cables}
use Rattle.fat_gen.proofs.cables.push_pod_cables.Given as goal

abbrev pub invariant-loop-number : goal.invariant-loop-number
invariant-loop-number l = l.cables.items ++ flat_map (switch_cables l.half l.pod) (range_with_len l.number (l.half - l.number)) ≡ l.fn.cables.items
    ++ pod_cables l.half l.pod
