use Rattle.std.proofs.Common.{◌++◌, codes, string_bytes}
use Rattle.std.specs.Fmt.{decimal}
use Rattle.cfg_print.proofs.Grown.{grown, ends}
use Rattle.printed_words.specs.Spaced.{spaced}
use Rattle.cfg_ast.specs.printing.Printed.{line_text, lp_line}
use Rattle.cfg_print.proofs.Joined.{lp_text}
use Rattle.cfg_print.proofs.route_maps.put_lp.Goals as goal

pub returns : goal.returns
returns c =
    let old = string_bytes c.args.text.now in
    let first = string_bytes c.put.new.text in
    let second = string_bytes c.put_number.new.text in
    ends c.put-2.result old (codes " set local-preference" ++ spaced (decimal c.args.lp)) second (codes "\n") (string_bytes c.put-2.new.text)
    (line_text (lp_line c.args.lp)) (grown old (codes " set local-preference") first (spaced (decimal c.args.lp)) second c.in_ok-put.ensures
    c.in_ok-put_number.ensures.ok) c.put-2.ensures (lp_text c.args.lp)
