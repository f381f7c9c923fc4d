use Rattle.std.proofs.Common.{◌≡◌, take}
use Rattle.cut_certificate.proofs.blocks.Blocks.first.Given as goal

abbrev pub invariant-loop-color : goal.invariant-loop-color
invariant-loop-color l = l.colors.items ≡ take l.color-index l.graph.colors
