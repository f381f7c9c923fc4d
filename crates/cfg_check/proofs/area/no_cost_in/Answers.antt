use Rattle.std.proofs.Common.{◌∙◌}
use Rattle.cfg_ast.specs.meaning.RouterFaults.{address_line}
use Rattle.cfg_check.specs.Items.{has_no_cost, area_address_with}
use Rattle.cfg_check.proofs.Turns.{picked_step}
use Rattle.cfg_check.proofs.area.no_cost_in.Goals as goal

pub loop-interface-preserved : goal.loop-interface-preserved
loop-interface-preserved c = c.lesser_line-least.ensures ∙ picked_step address_line (area_address_with has_no_cost c.args.index.now.router.now)
    c.args.interfaces.now c.loop-interface.interface-index c.interface-item.result c.loop-interface.least c.no_cost_at.result c.loop-interface-test.true
    c.interface-item.is c.loop-interface.invariant c.no_cost_at.ensures
