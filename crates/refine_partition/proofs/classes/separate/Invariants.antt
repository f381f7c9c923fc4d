use Rattle.std.proofs.Common.{◌≡◌, take, IfSome, Some}
use Rattle.refine_partition.specs.Classes.{AreReached}
use Rattle.refine_partition.specs.ClassNames.{class_name}
use Rattle.refine_partition.proofs.ClassLemmas.{Separating}
use Rattle.refine_partition.proofs.classes.separate.Given as goal

abbrev pub invariant-loop-mover : goal.invariant-loop-mover
invariant-loop-mover l = record {
  so_far : Separating l.initial.classes.items l.classes.items (take l.mover-index l.movers) (λ class. class_name l.names class) l.fresh l.next;
  reached : AreReached l.classes.items l.count l.reached.items;
  last : IfSome l.last (λ x. class_name l.names x.0 ≡ Some x.1);
}
