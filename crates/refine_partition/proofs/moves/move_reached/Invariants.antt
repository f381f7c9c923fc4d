use Rattle.std.proofs.Common.{◌≡◌, ◌+◌, length, take, IfSome, Some}
use Rattle.refine_partition.specs.Loose.{AreListed}
use Rattle.refine_partition.specs.ClassNames.{class_name}
use Rattle.refine_partition.proofs.MoveLemmas.{Moving}
use Rattle.refine_partition.proofs.moves.move_reached.Given as goal

abbrev pub invariant-loop-router : goal.invariant-loop-router
invariant-loop-router l = record {
  total : length l.lists.items ≡ length l.initial.lists.items + length l.pieces.origins.items;
  listed : AreListed l.numbers.items l.lists.items;
  moving : Moving l.initial.numbers.items l.classes l.touched (take l.router-index l.reached)
      (length l.initial.lists.items) l.numbers.items l.pieces.origins.items
      (λ class. class_name l.pieces.names class);
  last : IfSome l.last (λ x. class_name l.pieces.names x.0 ≡ Some x.1);
}
