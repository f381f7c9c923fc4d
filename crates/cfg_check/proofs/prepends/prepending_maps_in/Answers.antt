use Rattle.std.proofs.Common.{◌∙◌}
use Rattle.cfg_check.specs.Items.{map_in_naming}
use Rattle.numbered_names.specs.NameSets.{has_name}
use Rattle.cfg_check.proofs.Turns.{lines_step}
use Rattle.cfg_check.proofs.prepends.prepending_maps_in.Goals as goal

pub loop-neighbor-preserved : goal.loop-neighbor-preserved
loop-neighbor-preserved c = c.lesser_line-least.ensures ∙ lines_step (map_in_naming (has_name c.args.names.now)) c.args.neighbors.now
    c.loop-neighbor.neighbor-index c.neighbor-item.result c.loop-neighbor.least _ c.loop-neighbor-test.true c.neighbor-item.is c.loop-neighbor.invariant
    c.line_having.ensures
