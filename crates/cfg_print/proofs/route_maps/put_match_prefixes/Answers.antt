use Rattle.std.proofs.Common.{◌++◌, codes, string_bytes}
use Rattle.cfg_print.proofs.Grown.{grown, ends}
use Rattle.printed_words.specs.Spaced.{spaced_words}
use Rattle.cfg_ast.specs.printing.Printed.{line_text, match_prefixes_line}
use Rattle.cfg_print.proofs.Joined.{match_prefixes_text}
use Rattle.cfg_print.proofs.route_maps.put_match_prefixes.Goals as goal

pub returns : goal.returns
returns c =
    let old = string_bytes c.args.text.now in
    let first = string_bytes c.put.new.text in
    let second = string_bytes c.put_names.new.text in
    ends c.put-2.result old (codes " match ip address prefix-list" ++ spaced_words c.args.line.now.names) second (codes "\n") (string_bytes c.put-2.new.text)
    (line_text (match_prefixes_line c.args.line.now)) (grown old (codes " match ip address prefix-list") first (spaced_words c.args.line.now.names) second
    c.in_ok-put.ensures c.in_ok-put_names.ensures.ok) c.put-2.ensures (match_prefixes_text c.args.line.now)
