use Rattle.std.proofs.Common.{take}
use Rattle.cfg_check.specs.Blocks.{HasLens}
use Rattle.cfg_check.proofs.overlaps.lens_of.Given as goal

abbrev pub invariant-loop-address : goal.invariant-loop-address
invariant-loop-address l = HasLens l.lens (take l.address-index l.addresses)
