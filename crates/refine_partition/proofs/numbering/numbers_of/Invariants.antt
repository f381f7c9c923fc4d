use Rattle.std.proofs.Common.{◌≡◌, length, nat_eq, IfSome, Some}
use Rattle.std.specs.HashMap.{get}
use Rattle.refine_partition.proofs.NumberingLemmas.{Numbering}
use Rattle.refine_partition.proofs.numbering.numbers_of.Given as goal

abbrev pub invariant-loop-key : goal.invariant-loop-key
invariant-loop-key l = record {
  total : length l.numbers.items ≡ l.key-index;
  so_far : Numbering l.keys l.numbers.items l.count (λ key. get nat_eq l.names key);
  last : IfSome l.last (λ x. get nat_eq l.names x.0 ≡ Some x.1);
}
