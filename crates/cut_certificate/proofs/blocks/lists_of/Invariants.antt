use Rattle.std.proofs.Common.{◌≡◌, ◌+◌, [], length, All}
use Rattle.cut_certificate.proofs.Staying.{AreListedSoFar}
use Rattle.cut_certificate.proofs.blocks.lists_of.Given as goal

abbrev pub invariant-loop-list : goal.invariant-loop-list
invariant-loop-list l = record {
  total : length l.lists.items ≡ l._list;
  empty : All (λ v. v.items ≡ []) l.lists.items;
}

abbrev pub invariant-loop-router : goal.invariant-loop-router
invariant-loop-router l = record {
  total : length l.lists.items ≡ l.count + 1;
  so_far : AreListedSoFar l.router l.numbers l.lists.items;
}
