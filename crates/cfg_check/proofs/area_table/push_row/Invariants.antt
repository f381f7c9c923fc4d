use Rattle.cfg_check.specs.AreaTables.{agrees_in, AddsRow}
use Rattle.cfg_check.proofs.area_table.push_row.Given as goal

abbrev pub invariant-loop-chunk : goal.invariant-loop-chunk
invariant-loop-chunk l = AddsRow l.initial.words.items l.words.items (agrees_in l.row) l.lines l.chunk
