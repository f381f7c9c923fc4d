use Rattle.std.proofs.Common.{◌∙◌}
use Rattle.cfg_ast.specs.meaning.RouterFaults.{address_line, is_wide_loopback}
use Rattle.cfg_check.specs.Items.{area_address_with}
use Rattle.cfg_check.proofs.Turns.{picked_step}
use Rattle.cfg_check.proofs.area.wide_loopback_in.Goals as goal

pub loop-interface-preserved : goal.loop-interface-preserved
loop-interface-preserved c = c.lesser_line-least.ensures ∙ picked_step address_line (area_address_with is_wide_loopback c.args.index.now.router.now)
    c.args.interfaces.now c.loop-interface.interface-index c.interface-item.result c.loop-interface.least c.wide_loopback_at.result c.loop-interface-test.true
    c.interface-item.is c.loop-interface.invariant c.wide_loopback_at.ensures
