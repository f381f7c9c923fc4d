use Rattle.std.proofs.Common.{List, map, filter, ap, ◌∙◌}
use Rattle.cfg_ast.specs.declared.ospf.AreaLine.{AreaLine}
use Rattle.cfg_ast.specs.meaning.RouterFaults.{areas_of}
use Rattle.cfg_check.specs.Items.{area_line}
use Rattle.cfg_check.specs.LeastLine.{least_line}
use Rattle.cfg_check.specs.Processes.{has_other_area}
use Rattle.cfg_check.proofs.Turns.{filter_flat_step}
use Rattle.cfg_check.proofs.processes.any_other_area.Goals as goal

pub loop-router-preserved : goal.loop-router-preserved
loop-router-preserved c = c.lesser_line-least.ensures ∙ filter_flat_step area_line (has_other_area c.args.area) areas_of c.args.routers.now
    c.loop-router.router-index c.router-item.result c.loop-router.least c.other_area_of.result c.loop-router-test.true c.router-item.is c.loop-router.invariant
    (c.other_area_of.ensures ∙ ap (λ (ls : List AreaLine). least_line (map area_line (filter (has_other_area c.args.area) ls))) c.areas.ensures)
