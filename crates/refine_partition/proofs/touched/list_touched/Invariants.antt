use Rattle.std.proofs.Common.{take}
use Rattle.refine_partition.specs.Touched.{AreTouched}
use Rattle.refine_partition.proofs.touched.list_touched.Given as goal

abbrev pub invariant-loop-router : goal.invariant-loop-router
invariant-loop-router l = AreTouched l.numbers (take l.router-index l.routers) l.blocks.items
