use Rattle.cfg_check.proofs.AreaBits.{row_more}
use Rattle.cfg_check.proofs.area_table.rows.Goals as goal

pub loop-row-preserved : goal.loop-row-preserved
loop-row-preserved c = row_more c.loop-row.words.items c.push_row.new.words.items c.args.lines.now c.args.chunks c.loop-row.row c.loop-row.invariant
    c.in_ok-push_row.ensures
