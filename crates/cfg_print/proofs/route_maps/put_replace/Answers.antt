use Rattle.std.proofs.Common.{◌++◌, map, codes, string_bytes}
use Rattle.cfg_print.proofs.Grown.{grown, ends}
use Rattle.printed_words.specs.Spaced.{spaced_words}
use Rattle.cfg_ast.specs.declared.policy.Change.TheVariants.{Replace}
use Rattle.cfg_ast.specs.printing.Printed.{line_text, community_text, change_line}
use Rattle.cfg_print.proofs.Joined.{replace_text}
use Rattle.cfg_print.proofs.route_maps.put_replace.Goals as goal

pub returns : goal.returns
returns c =
    let old = string_bytes c.args.text.now in
    let first = string_bytes c.put.new.text in
    let second = string_bytes c.put_communities.new.text in
    ends c.put-2.result old (codes " set community" ++ spaced_words (map community_text c.args.comms.now)) second (codes "\n") (string_bytes c.put-2.new.text)
    (line_text (change_line (Replace c.args.comms.now)))
    (grown old (codes " set community") first (spaced_words (map community_text c.args.comms.now)) second c.in_ok-put.ensures
    c.in_ok-put_communities.ensures.ok) c.put-2.ensures (replace_text c.args.comms.now)
