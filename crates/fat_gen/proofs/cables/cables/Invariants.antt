use Rattle.std.proofs.Common.{◌≡◌, ◌++◌, ◌-◌, ◌*◌, flat_map}
use Rattle.std.specs.List.{range_with_len}
use Rattle.fat_gen.specs.Cables.{pod_cables, cables}
use Rattle.fat_gen.proofs.cables.cables.Given as goal

abbrev pub invariant-loop-pod : goal.invariant-loop-pod
invariant-loop-pod l = l.all.items ++ flat_map (pod_cables l.half) (range_with_len l.pod (2 * l.half - l.pod)) ≡ cables l.half
