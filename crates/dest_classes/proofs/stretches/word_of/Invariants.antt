use Rattle.std.proofs.Common.{◌≡◌, ◌<◌, ◌^◌, map, drop}
use Rattle.dest_classes.specs.Cells.{word_from, word_of}
use Rattle.dest_classes.proofs.stretches.word_of.Given as goal

abbrev pub invariant-loop-list : goal.invariant-loop-list
invariant-loop-list l = record {
  small : l.word < 2 ^ l.list-index;
  word : word_from l.word (map (λ list. list.now) (drop l.list-index l.lists)) l.prefix ≡ word_of (map (λ list. list.now) l.lists) l.prefix;
}
