use Rattle.std.proofs.Common.{◌∙◌}
use Rattle.cfg_ast.specs.meaning.RouterFaults.{address_line, is_wide_loopback, area_addresses_with}
use Rattle.cfg_check.specs.Items.{has_no_cost}
use Rattle.cfg_check.proofs.Turns.{flat_step}
use Rattle.cfg_check.proofs.area.area_faults.Goals as goal

pub loop-router-preserved : goal.loop-router-preserved
loop-router-preserved c =
    let routers = c.args.routers.now in
    let i = c.loop-router.router-index in
    let router = c.router-item.result in
    let below = c.loop-router-test.true in
    let here = c.router-item.is in
    let faults = c.in_ok-faults.ensures in
    record {
      wide = c.lesser_line-wide_loopback.ensures ∙ flat_step address_line (area_addresses_with is_wide_loopback) routers i router c.loop-router.wide_loopback _
          below here c.loop-router.invariant.wide faults.wide_loopback;
      no_cost = c.lesser_line-no_cost.ensures ∙ flat_step address_line (area_addresses_with has_no_cost) routers i router c.loop-router.no_cost _ below here
          c.loop-router.invariant.no_cost faults.no_cost;
    }
