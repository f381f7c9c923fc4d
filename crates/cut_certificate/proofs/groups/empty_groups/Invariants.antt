use Rattle.std.proofs.Common.{◌≡◌, [], length, All}
use Rattle.cut_certificate.proofs.groups.empty_groups.Given as goal

abbrev pub invariant-loop-group : goal.invariant-loop-group
invariant-loop-group l = record {
  total : length l.groups.items ≡ l._group;
  empty : All (λ v. v ≡ []) l.groups.items;
}
