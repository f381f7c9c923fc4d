use Rattle.std.proofs.Common.{◌∙◌}
use Rattle.cfg_ast.specs.meaning.RouterFaults.{protocol_lines_of}
use Rattle.cfg_check.specs.Items.{line_of_protocol}
use Rattle.cfg_check.specs.Processes.{has_other_protocol}
use Rattle.cfg_check.proofs.Turns.{filter_flat_step}
use Rattle.cfg_check.proofs.processes.other_protocol.Goals as goal

pub loop-router-preserved : goal.loop-router-preserved
loop-router-preserved c = c.lesser_line-least.ensures ∙ filter_flat_step line_of_protocol (has_other_protocol c.args.protocol) protocol_lines_of
    c.args.routers.now c.loop-router.router-index c.router-item.result c.loop-router.least c.other_protocol_of.result c.loop-router-test.true c.router-item.is
    c.loop-router.invariant c.other_protocol_of.ensures
