use Rattle.std.proofs.Common.{◌≡◌, ◌++◌, ◌∷◌, [], List, map, flat_map, codes, ap, ◌∙◌, append_assoc, string_bytes}
use Rattle.cfg_ast.specs.text.TextLines.{TextLine}
use Rattle.cfg_print.proofs.Grown.{lines_grown, lines_end}
use Rattle.cfg_ast.specs.printing.Printed.{lines_text, line, closing, member_line, interface_lines, lines_of_some, bgp_lines, ospf_lines}
use Rattle.cfg_print.specs.Fronts.{router_front}
use Rattle.cfg_print.proofs.routers.put_front.Goals as goal

pub returns : goal.returns
unfolding router_front
returns c =
    let old = string_bytes c.args.text.now in
    let a = line 0 (codes "hostname" ∷ c.args.router.now.name ∷ []) ∷ [] in
    let b = map member_line c.args.members.now in
    let is_b = lines_grown old a (string_bytes c.put_host.new.text) b (string_bytes c.put_members.new.text) c.in_ok-put_host.ensures c.in_ok-put_members.ensures
    in
    let mark = closing ∷ [] in
    let is_closed = lines_grown old (a ++ b) (string_bytes c.put_members.new.text) mark (string_bytes c.put_closing.new.text) is_b c.in_ok-put_closing.ensures
    in
    let d = flat_map interface_lines c.args.router.now.interfaces in
    let is_d = lines_grown old ((a ++ b) ++ mark) (string_bytes c.put_closing.new.text) d (string_bytes c.put_interfaces.new.text) is_closed
    c.in_ok-put_interfaces.ensures in
    let front : string_bytes c.put_interfaces.new.text ≡ old ++ lines_text ((a ++ b) ++ (mark ++ d)) = is_d
    ∙ ap (λ (ls : List TextLine). old ++ lines_text ls) (append_assoc (a ++ b) mark d) in
    let e = lines_of_some bgp_lines c.args.router.now.bgp in
    let is_e = lines_grown old ((a ++ b) ++ (mark ++ d)) (string_bytes c.put_interfaces.new.text) e (string_bytes c.put_some_bgp.new.text) front
    c.in_ok-put_some_bgp.ensures in
    lines_end c.put_some_ospf.result old (((a ++ b) ++ (mark ++ d)) ++ e) (string_bytes c.put_some_bgp.new.text)
    (lines_of_some ospf_lines c.args.router.now.ospf) (string_bytes c.put_some_ospf.new.text) is_e c.put_some_ospf.ensures
