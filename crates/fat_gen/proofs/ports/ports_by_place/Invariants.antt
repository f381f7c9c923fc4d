use Rattle.std.proofs.Common.{◌≡◌, length}
use Rattle.fat_gen.proofs.PortSteps.{HavePortsBefore}
use Rattle.fat_gen.proofs.ports.ports_by_place.Given as goal

abbrev pub invariant-loop-i : goal.invariant-loop-i
invariant-loop-i l = record {
  total : length l.table.items ≡ l.count;
  before : HavePortsBefore l.i l.cables l.table.items;
}
