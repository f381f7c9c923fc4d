use Rattle.std.proofs.Common.{◌∙◌}
use Rattle.cfg_ast.specs.meaning.PolicyFaults.{lines_in_map_naming}
use Rattle.cfg_check.specs.NameSets.{lacks_name}
use Rattle.cfg_check.proofs.Turns.{lines_step}
use Rattle.cfg_check.proofs.undefined.undefined_lists_by_maps.Goals as goal

pub loop-map-preserved : goal.loop-map-preserved
loop-map-preserved c = c.lesser_line-least.ensures ∙ lines_step (lines_in_map_naming (lacks_name c.args.prefixes.now) (lacks_name c.args.comms.now))
    c.args.maps.now c.loop-map.map-index c.map-item.result c.loop-map.least _ c.loop-map-test.true c.map-item.is c.loop-map.invariant
    c.undefined_lists_in_map.ensures
