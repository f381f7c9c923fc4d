use Rattle.cfg_check.specs.AreaTables.{HasRows}
use Rattle.cfg_check.proofs.area_table.rows.Given as goal

abbrev pub invariant-loop-row : goal.invariant-loop-row
invariant-loop-row l = HasRows l.words.items l.lines l.chunks l.row
