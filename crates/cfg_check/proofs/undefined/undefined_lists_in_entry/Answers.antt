use Rattle.cfg_ast.specs.meaning.PolicyFaults.{line_naming, match_line_naming}
use Rattle.cfg_check.specs.NameSets.{lacks_name}
use Rattle.std.proofs.Common.{◌++◌, ◌∙◌}
use Rattle.cfg_check.proofs.Turns.{both_lines}
use Rattle.cfg_check.proofs.undefined.undefined_lists_in_entry.Goals as goal

pub returns : goal.returns
returns c =
    let prefixes = lacks_name c.args.prefixes.now in
    let comms = lacks_name c.args.comms.now in
    let entry = c.args.entry.now in
    let matched = match_line_naming prefixes entry.prefixes ++ match_line_naming comms entry.comms in
    let both = c.lesser_line.ensures ∙ both_lines (match_line_naming prefixes entry.prefixes) (match_line_naming comms entry.comms) _ _
    c.match_line_lacking-by_prefixes.ensures c.match_line_lacking-by_comms.ensures in
    c.lesser_line-2.ensures ∙ both_lines matched (line_naming comms entry.delete) _ _ both c.line_lacking-by_delete.ensures
