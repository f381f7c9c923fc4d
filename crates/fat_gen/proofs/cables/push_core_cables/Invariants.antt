use Rattle.std.proofs.Common.{◌≡◌, ◌++◌, ◌-◌, map}
use Rattle.std.specs.List.{range_with_len}
use Rattle.fat_gen.specs.Cables.{core_cable}
use Rattle.fat_gen.proofs.cables.push_core_cables.Given as goal

abbrev pub invariant-loop-core : goal.invariant-loop-core
invariant-loop-core l = l.cables.items ≡ l.fn.cables.items ++ map (core_cable l.half l.pod l.number) (range_with_len l.first (l.core - l.first))
