use Rattle.std.proofs.Common.{◌∙◌}
use Rattle.cfg_check.specs.Items.{foreign_prepend_in}
use Rattle.cfg_check.proofs.Turns.{lines_step}
use Rattle.cfg_check.proofs.prepends.foreign_prepends_in_map.Goals as goal

pub loop-entry-preserved : goal.loop-entry-preserved
loop-entry-preserved c = c.lesser_line-least.ensures ∙ lines_step (foreign_prepend_in c.args.router.now) c.as_slice-entry-items.result.now
    c.loop-entry.entry-index c.entry-item.result c.loop-entry.least _ c.loop-entry-test.true c.entry-item.is c.loop-entry.invariant c.foreign_prepend_in.ensures
