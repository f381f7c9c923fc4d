use Rattle.std.proofs.Common.{◌≡◌, map}
use Rattle.named_lists.specs.NumberedLists.{in_order}
use Rattle.named_lists.proofs.InPlace.{changed_from}
use Rattle.named_lists.proofs.numbered.all_in_order.Given as goal

-- those from the index on, put in order, stand where all of them put in order stand
abbrev pub invariant-loop-list : goal.invariant-loop-list
invariant-loop-list g l = changed_from (in_order g.E.Numbered.number) l.list-index l.list-items ≡ map (in_order g.E.Numbered.number) l.fn.lists
