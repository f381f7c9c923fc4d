use Rattle.std.proofs.Common.{◌≡◌, length, take, get_or, None}
use Rattle.refine_partition.proofs.RenumberLemmas.{Renumbering}
use Rattle.refine_partition.proofs.renumbering.renumbered.Given as goal

abbrev pub invariant-loop-router : goal.invariant-loop-router
invariant-loop-router l = record {
  names : length l.names.items ≡ l.class_count;
  so_far : Renumbering l.numbers l.classes (take l.router-index l.queue) (length l.blocks) l.next.items l.origins.items
      (λ class. get_or l.names.items class None);
}
