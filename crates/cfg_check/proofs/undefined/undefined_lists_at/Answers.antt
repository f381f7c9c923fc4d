use Rattle.cfg_ast.specs.meaning.PolicyFaults.{line_naming}
use Rattle.cfg_check.specs.NameSets.{lacks_name}
use Rattle.std.proofs.Common.{◌∙◌}
use Rattle.cfg_check.proofs.Turns.{both_lines}
use Rattle.cfg_check.proofs.undefined.undefined_lists_at.Goals as goal

pub returns : goal.returns
returns c =
    let test = lacks_name c.args.names.now in
    let neighbor = c.args.neighbor.now in
    c.lesser_line.ensures ∙ both_lines (line_naming test neighbor.list_in) (line_naming test neighbor.list_out) _ _ c.line_lacking-line_in.ensures
    c.line_lacking-line_out.ensures
