use Rattle.std.proofs.Common.{◌≡◌, ℕ, length, take}
use Rattle.refine_partition.proofs.TurnLemmas.{IsSettled}
use Rattle.refine_partition.proofs.moves.settle.Given as goal

abbrev pub invariant-loop-router : goal.invariant-loop-router
invariant-loop-router l = record {
  total : length l.classes.items ≡ length l.initial.classes.items;
  settled : (u : ℕ) → IsSettled l.initial.classes.items l.classes.items l.numbers (take l.router-index l.reached) u;
}
