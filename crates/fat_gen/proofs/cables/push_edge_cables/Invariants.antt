use Rattle.std.proofs.Common.{◌≡◌, ◌++◌, map}
use Rattle.std.specs.List.{range_with_len}
use Rattle.fat_gen.specs.Cables.{edge_cable}
use Rattle.fat_gen.proofs.cables.push_edge_cables.Given as goal

abbrev pub invariant-loop-edge : goal.invariant-loop-edge
invariant-loop-edge l = l.cables.items ≡ l.fn.cables.items ++ map (edge_cable l.half l.pod l.number) (range_with_len 0 l.edge)
