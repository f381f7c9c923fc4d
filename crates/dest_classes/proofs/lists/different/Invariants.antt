use Rattle.std.proofs.Common.{◌≡◌, [], map, drop}
use Rattle.dest_classes.specs.Lists.{AreSaid, with_lists}
use Rattle.dest_classes.proofs.lists.different.Given as goal

abbrev pub invariant-loop-list : goal.invariant-loop-list
invariant-loop-list l = record {
  said : AreSaid l.said (map (λ list. list.now) l.asked.items);
  asked : with_lists (map (λ list. list.now) (drop l.list-index l.lists)) (map (λ list. list.now) l.asked.items) ≡ with_lists (map (λ list. list.now) l.lists)
      [];
}
