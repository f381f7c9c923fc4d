use Rattle.std.proofs.Common.{◌≡◌, [], length, All}
use Rattle.cut_certificate.proofs.outgoing.empty_lists.Given as goal

abbrev pub invariant-loop-list : goal.invariant-loop-list
invariant-loop-list l = record {
  total : length l.lists.items ≡ l._list;
  empty : All (λ v. v.items ≡ []) l.lists.items;
}
