use Rattle.std.proofs.Common.{◌∙◌}
use Rattle.cfg_ast.specs.meaning.PolicyFaults.{several_in}
use Rattle.numbered_names.specs.NameSets.{has_name}
use Rattle.cfg_check.proofs.Turns.{lines_step}
use Rattle.cfg_check.proofs.deletions.several_in_lists.Goals as goal

pub loop-list-preserved : goal.loop-list-preserved
loop-list-preserved c = c.lesser_line-least.ensures ∙ lines_step (several_in (has_name c.args.names.now)) c.args.lists.now c.loop-list.list-index
    c.list-item.result c.loop-list.least _ c.loop-list-test.true c.list-item.is c.loop-list.invariant c.several_in_list.ensures
