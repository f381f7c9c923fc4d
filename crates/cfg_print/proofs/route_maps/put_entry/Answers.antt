use Rattle.std.proofs.Common.{◌++◌, ◌∷◌, [], string_bytes}
use Rattle.cfg_print.proofs.Grown.{lines_grown, lines_end}
use Rattle.cfg_ast.specs.printing.Printed.{closing, line_of_given, map_head_line, match_prefixes_line, match_comms_line, lp_line, change_line, delete_line, prepend_line, map_entry_lines}
use Rattle.cfg_print.proofs.route_maps.put_entry.Goals as goal

pub returns : goal.returns
unfolding map_entry_lines
returns c =
    let old = string_bytes c.args.text.now in
    let head = map_head_line c.args.name.now c.args.entry.now ∷ [] in
    let prefixes = line_of_given match_prefixes_line c.args.entry.now.prefixes in
    let with_prefixes = lines_grown old head (string_bytes c.put_map_head.new.text) prefixes (string_bytes c.put_some_prefixes.new.text)
    c.in_ok-put_map_head.ensures c.in_ok-put_some_prefixes.ensures in
    let comms = line_of_given (match_comms_line c.args.entry.now.exact) c.args.entry.now.comms in
    let with_comms = lines_grown old (head ++ prefixes) (string_bytes c.put_some_prefixes.new.text) comms (string_bytes c.put_some_comms.new.text) with_prefixes
    c.in_ok-put_some_comms.ensures in
    let lp = line_of_given lp_line c.args.entry.now.lp in
    let with_lp = lines_grown old ((head ++ prefixes) ++ comms) (string_bytes c.put_some_comms.new.text) lp (string_bytes c.put_some_lp.new.text) with_comms
    c.in_ok-put_some_lp.ensures in
    let change = line_of_given change_line c.args.entry.now.change in
    let with_change = lines_grown old (((head ++ prefixes) ++ comms) ++ lp) (string_bytes c.put_some_lp.new.text) change
    (string_bytes c.put_some_change.new.text) with_lp c.in_ok-put_some_change.ensures in
    let delete = line_of_given delete_line c.args.entry.now.delete in
    let with_delete = lines_grown old ((((head ++ prefixes) ++ comms) ++ lp) ++ change) (string_bytes c.put_some_change.new.text) delete
    (string_bytes c.put_some_delete.new.text) with_change c.in_ok-put_some_delete.ensures in
    let prepend = line_of_given prepend_line c.args.entry.now.prepend in
    let with_prepend = lines_grown old (((((head ++ prefixes) ++ comms) ++ lp) ++ change) ++ delete) (string_bytes c.put_some_delete.new.text) prepend
    (string_bytes c.put_some_prepend.new.text) with_delete c.in_ok-put_some_prepend.ensures in
    lines_end c.put_closing.result old ((((((head ++ prefixes) ++ comms) ++ lp) ++ change) ++ delete) ++ prepend) (string_bytes c.put_some_prepend.new.text)
    (closing ∷ []) (string_bytes c.put_closing.new.text) with_prepend c.put_closing.ensures
