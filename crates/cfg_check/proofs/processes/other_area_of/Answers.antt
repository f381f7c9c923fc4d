use Rattle.std.proofs.Common.{not, get_or, ap, ◌∙◌}
use Rattle.cfg_ast.specs.declared.ospf.AreaLine.{AreaLine}
use Rattle.cfg_check.specs.Items.{area_line}
use Rattle.cfg_check.specs.Processes.{has_other_area}
use Rattle.cfg_check.proofs.Turns.{filter_step}
use Rattle.std.proofs.lemmas.List.{get_or_default}
use Rattle.cfg_check.proofs.Seen.{same_either_way}
use Rattle.cfg_check.proofs.processes.other_area_of.Goals as goal

pub loop-line-preserved : goal.loop-line-preserved
loop-line-preserved c =
    let none : AreaLine = record { addr = 0; wild = 0; area = 0; line = 0 } in
    let lines = c.args.lines.now in
    let line = get_or lines c.loop-line.line-index none in
    c.with_line_if-least.ensures
    ∙ filter_step area_line (has_other_area c.args.area) lines c.loop-line.line-index line c.loop-line.least _ c.loop-line-test.true
    (get_or_default lines c.loop-line.line-index none line c.loop-line-test.true) c.loop-line.invariant (ap not (same_either_way c.args.area line.area))
