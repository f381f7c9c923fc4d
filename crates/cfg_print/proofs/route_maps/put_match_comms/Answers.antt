use Rattle.std.proofs.Common.{◌++◌, ◌∷◌, [], codes, string_bytes}
use Rattle.std.specs.Prelude.{if◌then◌else◌}
use Rattle.cfg_print.proofs.Grown.{grown, ends}
use Rattle.printed_words.specs.Spaced.{spaced_words}
use Rattle.cfg_ast.specs.printing.Printed.{line_text, match_comms_line}
use Rattle.cfg_print.proofs.Joined.{match_comms_text}
use Rattle.cfg_print.proofs.route_maps.put_match_comms.Goals as goal

pub returns : goal.returns
returns c =
    let old = string_bytes c.args.text.now in
    let first = string_bytes c.put.new.text in
    let second = string_bytes c.put_names.new.text in
    let third = string_bytes c.put_mark.new.text in
    let names = spaced_words c.args.line.now.names in
    let mark = spaced_words (if c.args.exact then codes "exact-match" ∷ [] else []) in
    let two = grown old (codes " match community") first names second c.in_ok-put.ensures c.in_ok-put_names.ensures.ok in
    let three = grown old (codes " match community" ++ names) second mark third two c.in_ok-put_mark.ensures in
    ends c.put-2.result old (codes " match community" ++ names ++ mark) third (codes "\n") (string_bytes c.put-2.new.text)
    (line_text (match_comms_line c.args.exact c.args.line.now)) three c.put-2.ensures (match_comms_text c.args.exact c.args.line.now)
