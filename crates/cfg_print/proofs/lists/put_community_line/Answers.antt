use Rattle.std.proofs.Common.{◌++◌, map, codes, string_bytes}
use Rattle.cfg_print.proofs.Grown.{grown, ends}
use Rattle.printed_words.specs.Spaced.{spaced, spaced_words}
use Rattle.cfg_ast.specs.printing.Printed.{line_text, act_text, community_text, community_list_name, community_list_line}
use Rattle.cfg_print.proofs.Joined.{community_line_text}
use Rattle.cfg_print.proofs.lists.put_community_line.Goals as goal

pub returns : goal.returns
returns c =
    let old = string_bytes c.args.text.now in
    let name = spaced_words (community_list_name c.args.name.now) in
    let act = spaced (act_text c.args.line.now.permit) in
    let comms = spaced_words (map community_text c.args.line.now.comms) in
    let head = codes "ip community-list" in
    let two = grown old head (string_bytes c.put.new.text) name (string_bytes c.put_list_name.new.text) c.in_ok-put.ensures c.in_ok-put_list_name.ensures in
    let three = grown old (head ++ name) (string_bytes c.put_list_name.new.text) act (string_bytes c.put_act.new.text) two c.in_ok-put_act.ensures in
    let four = grown old (head ++ name ++ act) (string_bytes c.put_act.new.text) comms (string_bytes c.put_communities.new.text) three
    c.in_ok-put_communities.ensures.ok in
    ends c.put-2.result old (head ++ name ++ act ++ comms) (string_bytes c.put_communities.new.text) (codes "\n") (string_bytes c.put-2.new.text)
    (line_text (community_list_line c.args.name.now c.args.line.now)) four c.put-2.ensures (community_line_text c.args.name.now c.args.line.now)
