use Rattle.std.proofs.Common.{◌++◌, map, codes, string_bytes}
use Rattle.std.specs.Fmt.{decimal}
use Rattle.cfg_print.proofs.Grown.{grown, ends}
use Rattle.printed_words.specs.Spaced.{spaced_words}
use Rattle.cfg_ast.specs.printing.Printed.{line_text, prepend_line}
use Rattle.cfg_print.proofs.Joined.{prepend_text}
use Rattle.cfg_print.proofs.route_maps.put_prepend.Goals as goal

pub returns : goal.returns
returns c =
    let old = string_bytes c.args.text.now in
    let first = string_bytes c.put.new.text in
    let second = string_bytes c.put_numbers.new.text in
    ends c.put-2.result old (codes " set as-path prepend" ++ spaced_words (map decimal c.args.prepend.now.numbers)) second (codes "\n")
    (string_bytes c.put-2.new.text) (line_text (prepend_line c.args.prepend.now))
    (grown old (codes " set as-path prepend") first (spaced_words (map decimal c.args.prepend.now.numbers)) second c.in_ok-put.ensures
    c.in_ok-put_numbers.ensures.ok) c.put-2.ensures (prepend_text c.args.prepend.now)
