use Rattle.std.proofs.Common.{◌≡◌, length, take}
use Rattle.refine_partition.proofs.classes.widened.Given as goal

abbrev pub invariant-loop-router : goal.invariant-loop-router
invariant-loop-router l = record {
  total : length l.classes.items ≡ length l.numbers;
  filled : take l.router l.classes.items ≡ take l.router l.numbers;
}
