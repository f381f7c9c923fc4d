use Rattle.std.proofs.Common.{◌∙◌}
use Rattle.cfg_ast.specs.meaning.RouterFaults.{address_line}
use Rattle.cfg_check.specs.Items.{overlapping_in}
use Rattle.cfg_check.proofs.Turns.{flat_step}
use Rattle.cfg_check.proofs.overlaps.overlapping_interfaces.Goals as goal

pub loop-router-preserved : goal.loop-router-preserved
loop-router-preserved c = c.lesser_line-least.ensures ∙ flat_step address_line overlapping_in c.args.routers.now c.loop-router.router-index c.router-item.result
    c.loop-router.least _ c.loop-router-test.true c.router-item.is c.loop-router.invariant c.in_ok-overlapping_of.ensures
