use Rattle.std.proofs.Common.{ap, ◌∙◌}
use Rattle.cfg_ast.specs.meaning.PolicyFaults.{several_at}
use Rattle.cfg_check.specs.LeastLine.{fault_line_if}
use Rattle.cfg_check.proofs.Turns.{lines_step, line_if_least}
use Rattle.cfg_check.proofs.deletions.several_in_lines.Goals as goal

pub loop-line-preserved : goal.loop-line-preserved
loop-line-preserved c =
    let x = c.line-item.result in
    c.with_line_if-least.ensures ∙ lines_step several_at c.args.lines.now c.loop-line.line-index x c.loop-line.least _ c.loop-line-test.true c.line-item.is
    c.loop-line.invariant
    (ap (λ b. fault_line_if b x.line) c.names_several.ensures ∙ line_if_least _ x.line)
