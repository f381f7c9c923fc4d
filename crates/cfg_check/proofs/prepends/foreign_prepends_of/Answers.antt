use Rattle.std.proofs.Common.{◌∙◌}
use Rattle.cfg_ast.specs.meaning.PolicyFaults.{foreign_prepends_in_map}
use Rattle.cfg_check.proofs.Turns.{lines_step}
use Rattle.cfg_check.proofs.prepends.foreign_prepends_of.Goals as goal

pub loop-map-preserved : goal.loop-map-preserved
loop-map-preserved c = c.lesser_line-least.ensures ∙ lines_step (foreign_prepends_in_map c.args.router.now) c.as_slice-map-items.result.now c.loop-map.map-index
    c.map-item.result c.loop-map.least _ c.loop-map-test.true c.map-item.is c.loop-map.invariant c.foreign_prepends_in_map.ensures
