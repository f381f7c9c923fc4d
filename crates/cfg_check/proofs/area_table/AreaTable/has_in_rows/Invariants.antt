use Rattle.std.proofs.Common.{◌≡◌, ◌*◌, take, false}
use Rattle.std.specs.List.{list_any}
use Rattle.cfg_check.specs.AreaTables.{agrees_below}
use Rattle.cfg_check.proofs.area_table.AreaTable.has_in_rows.Given as goal

abbrev pub invariant-loop-chunk : goal.invariant-loop-chunk
invariant-loop-chunk l = list_any (agrees_below 8 l.addr) (take (l.chunk * 64) l.self.lines.now) ≡ false
