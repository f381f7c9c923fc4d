use Rattle.std.proofs.Common.{◌≡◌, ◌+◌, length, map, drop}
use Rattle.dest_classes.proofs.Rules.{at_now}
use Rattle.dest_classes.proofs.StretchFacts.{IsStretchBut}
use Rattle.dest_classes.proofs.stretches.stretch_from.Given as goal

abbrev pub invariant-loop-list : goal.invariant-loop-list
invariant-loop-list l = record {
  behind : l.behind + l.list-index ≡ length l.lists;
  asked : IsStretchBut (map at_now l.lists) (map at_now (drop l.list-index l.lists)) l.first l.last l.stretch;
}
