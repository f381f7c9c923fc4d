use Rattle.std.proofs.Common.{◌≡◌, [], length, All}
use Rattle.fat_gen.proofs.ports.no_ports.Given as goal

abbrev pub invariant-loop-place : goal.invariant-loop-place
invariant-loop-place l = record {
  total : length l.table.items ≡ l._place;
  empty : All (λ v. v.items ≡ []) l.table.items;
}
