use Rattle.std.proofs.Common.{◌++◌, ◌∷◌, [], map, flat_map, codes, string_bytes}
use Rattle.std.specs.Fmt.{decimal}
use Rattle.cfg_print.proofs.Grown.{lines_grown, lines_end}
use Rattle.cfg_ast.specs.printing.Printed.{line, closing, line_of_given, base_line, network_line, neighbor_lines, bgp_lines}
use Rattle.cfg_print.proofs.bgp.put_bgp.Goals as goal

pub returns : goal.returns
unfolding bgp_lines
returns c =
    let old = string_bytes c.args.text.now in
    let head = line 0 (codes "router" ∷ codes "bgp" ∷ decimal c.args.process.now.number ∷ []) ∷ [] in
    let base = line_of_given base_line c.args.process.now.base in
    let with_base = lines_grown old head (string_bytes c.put_head.new.text) base (string_bytes c.put_some_base.new.text) c.in_ok-put_head.ensures
    c.in_ok-put_some_base.ensures in
    let nets = map network_line c.args.process.now.networks in
    let with_nets = lines_grown old (head ++ base) (string_bytes c.put_some_base.new.text) nets (string_bytes c.put_networks.new.text) with_base
    c.in_ok-put_networks.ensures in
    let peers = flat_map neighbor_lines c.args.process.now.neighbors in
    let with_peers = lines_grown old ((head ++ base) ++ nets) (string_bytes c.put_networks.new.text) peers (string_bytes c.put_neighbors.new.text) with_nets
    c.in_ok-put_neighbors.ensures in
    lines_end c.put_closing.result old (((head ++ base) ++ nets) ++ peers) (string_bytes c.put_neighbors.new.text) (closing ∷ [])
    (string_bytes c.put_closing.new.text) with_peers c.put_closing.ensures
