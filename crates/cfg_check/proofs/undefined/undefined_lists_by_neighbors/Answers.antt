use Rattle.std.proofs.Common.{◌∙◌}
use Rattle.cfg_ast.specs.meaning.PolicyFaults.{list_lines_naming}
use Rattle.cfg_check.specs.NameSets.{lacks_name}
use Rattle.cfg_check.proofs.Turns.{lines_step}
use Rattle.cfg_check.proofs.undefined.undefined_lists_by_neighbors.Goals as goal

pub loop-neighbor-preserved : goal.loop-neighbor-preserved
loop-neighbor-preserved c = c.lesser_line-least.ensures ∙ lines_step (list_lines_naming (lacks_name c.args.names.now)) c.args.neighbors.now
    c.loop-neighbor.neighbor-index c.neighbor-item.result c.loop-neighbor.least _ c.loop-neighbor-test.true c.neighbor-item.is c.loop-neighbor.invariant
    c.undefined_lists_at.ensures
