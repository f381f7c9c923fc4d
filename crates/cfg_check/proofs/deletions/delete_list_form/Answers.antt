use Rattle.std.proofs.Common.{◌∙◌}
use Rattle.cfg_ast.specs.meaning.PolicyFaults.{wide_deletions_of}
use Rattle.cfg_check.proofs.Turns.{lines_step}
use Rattle.cfg_check.proofs.deletions.delete_list_form.Goals as goal

pub loop-router-preserved : goal.loop-router-preserved
loop-router-preserved c = c.lesser_line-least.ensures ∙ lines_step wide_deletions_of c.args.routers.now c.loop-router.router-index c.router-item.result
    c.loop-router.least _ c.loop-router-test.true c.router-item.is c.loop-router.invariant c.in_ok-wide_deletions_of.ensures
