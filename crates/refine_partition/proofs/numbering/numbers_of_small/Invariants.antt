use Rattle.std.proofs.Common.{◌≡◌, length}
use Rattle.refine_partition.specs.Numbering.{number_of_key}
use Rattle.refine_partition.proofs.NumberingLemmas.{Numbering}
use Rattle.refine_partition.proofs.numbering.numbers_of_small.Given as goal

abbrev pub invariant-loop-key : goal.invariant-loop-key
invariant-loop-key l = record {
  size : length l.names.items ≡ length l.keys;
  total : length l.numbers.items ≡ l.key-index;
  so_far : Numbering l.keys l.numbers.items l.count (λ key. number_of_key l.names.items key);
}
