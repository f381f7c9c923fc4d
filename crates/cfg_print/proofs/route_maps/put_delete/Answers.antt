use Rattle.std.proofs.Common.{◌++◌, codes, string_bytes}
use Rattle.cfg_print.proofs.Grown.{grown, ends}
use Rattle.printed_words.specs.Spaced.{spaced}
use Rattle.cfg_ast.specs.printing.Printed.{line_text, delete_line}
use Rattle.cfg_print.proofs.Joined.{delete_text}
use Rattle.cfg_print.proofs.route_maps.put_delete.Goals as goal

pub returns : goal.returns
returns c =
    let old = string_bytes c.args.text.now in
    let first = string_bytes c.put.new.text in
    let second = string_bytes c.put_name.new.text in
    ends c.put-2.result old (codes " set comm-list" ++ spaced c.args.list.now.name) second (codes " delete\n") (string_bytes c.put-2.new.text)
    (line_text (delete_line c.args.list.now)) (grown old (codes " set comm-list") first (spaced c.args.list.now.name) second c.in_ok-put.ensures
    c.in_ok-put_name.ensures.ok) c.put-2.ensures (delete_text c.args.list.now)
