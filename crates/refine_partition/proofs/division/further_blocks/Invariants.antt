use Rattle.std.proofs.Common.{◌≡◌, length}
use Rattle.refine_partition.specs.Kept.{AreFurther}
use Rattle.refine_partition.proofs.division.further_blocks.Given as goal

abbrev pub invariant-loop-origin : goal.invariant-loop-origin
invariant-loop-origin l = record {
  total : length l.further.items ≡ l.origin-index;
  further : AreFurther l.numbers l.origins l.blocks l.further.items;
}
