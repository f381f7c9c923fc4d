use Rattle.std.proofs.Common.{◌≡◌, ◌+◌, ◌≤◌, drop}
use Rattle.std.specs.List.{sum_by}
use Rattle.dest_classes.specs.declared.stretches.LeftList.{LeftList}
use Rattle.dest_classes.specs.Stretches.{left_bit, stretch_word}
use Rattle.dest_classes.proofs.stretches.stretch_word.Given as goal

abbrev pub invariant-loop-list : goal.invariant-loop-list
invariant-loop-list l = record {
  bits : l.word + sum_by (λ (left : LeftList). left.bit) (drop l.list-index l.stretch.left.items) ≤ 18446744073709551615;
  word : l.word + sum_by (left_bit l.addr) (drop l.list-index l.stretch.left.items) ≡ stretch_word l.stretch l.addr;
}
