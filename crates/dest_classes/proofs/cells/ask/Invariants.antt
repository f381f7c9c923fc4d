use Rattle.std.proofs.Common.{◌≡◌, [], ◌++◌, map}
use Rattle.dest_classes.specs.Cells.{cell_key, asked}
use Rattle.dest_classes.proofs.cells.ask.Given as goal

abbrev pub invariant-loop-member : goal.invariant-loop-member
invariant-loop-member l = record {
  keys : l.member-iterator.b.rest.items ≡ map (cell_key (map (λ list. list.now) l.lists)) l.member-iterator.a.rest.items;
  asked : l.asked.items ++ asked (map (λ list. list.now) l.lists) l.different.keys l.member-iterator.a.rest.items
      ≡ asked (map (λ list. list.now) l.lists) [] l.fn.members.items;
}
