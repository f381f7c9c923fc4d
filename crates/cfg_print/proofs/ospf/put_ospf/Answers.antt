use Rattle.std.proofs.Common.{◌++◌, ◌∷◌, [], map, codes, string_bytes}
use Rattle.std.specs.Fmt.{decimal}
use Rattle.cfg_print.proofs.Grown.{lines_grown, lines_end}
use Rattle.cfg_ast.specs.printing.Printed.{line, closing, line_if, passive_default_line, passive_line, not_passive_line, network_area_line, ospf_lines}
use Rattle.cfg_print.proofs.ospf.put_ospf.Goals as goal

pub returns : goal.returns
unfolding ospf_lines
returns c =
    let old = string_bytes c.args.text.now in
    let head = line 0 (codes "router" ∷ codes "ospf" ∷ decimal c.args.process.now.number ∷ []) ∷ [] in
    let all = line_if c.args.process.now.passive_default passive_default_line in
    let with_all = lines_grown old head (string_bytes c.put_head.new.text) all (string_bytes c.put_passive_default.new.text) c.in_ok-put_head.ensures
    c.in_ok-put_passive_default.ensures in
    let passive = map passive_line c.args.process.now.passive in
    let with_passive = lines_grown old (head ++ all) (string_bytes c.put_passive_default.new.text) passive (string_bytes c.put_passive.new.text) with_all
    c.in_ok-put_passive.ensures in
    let not_passive = map not_passive_line c.args.process.now.not_passive in
    let with_not_passive = lines_grown old ((head ++ all) ++ passive) (string_bytes c.put_passive.new.text) not_passive
    (string_bytes c.put_not_passive.new.text) with_passive c.in_ok-put_not_passive.ensures in
    let areas = map network_area_line c.args.process.now.areas in
    let with_areas = lines_grown old (((head ++ all) ++ passive) ++ not_passive) (string_bytes c.put_not_passive.new.text) areas
    (string_bytes c.put_areas.new.text) with_not_passive c.in_ok-put_areas.ensures in
    lines_end c.put_closing.result old ((((head ++ all) ++ passive) ++ not_passive) ++ areas) (string_bytes c.put_areas.new.text) (closing ∷ [])
    (string_bytes c.put_closing.new.text) with_areas c.put_closing.ensures
