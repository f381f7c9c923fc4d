use Rattle.std.proofs.Common.{◌∙◌}
use Rattle.cfg_ast.specs.meaning.PolicyFaults.{entry_lines_naming}
use Rattle.cfg_check.specs.NameSets.{lacks_name}
use Rattle.cfg_check.proofs.Turns.{lines_step}
use Rattle.cfg_check.proofs.undefined.undefined_lists_in_map.Goals as goal

pub loop-entry-preserved : goal.loop-entry-preserved
loop-entry-preserved c = c.lesser_line-least.ensures ∙ lines_step (entry_lines_naming (lacks_name c.args.prefixes.now) (lacks_name c.args.comms.now))
    c.as_slice-entry-items.result.now c.loop-entry.entry-index c.entry-item.result c.loop-entry.least _ c.loop-entry-test.true c.entry-item.is
    c.loop-entry.invariant c.undefined_lists_in_entry.ensures
