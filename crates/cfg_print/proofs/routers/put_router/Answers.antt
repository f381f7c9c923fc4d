use Rattle.std.proofs.Common.{◌++◌, ◌∷◌, [], flat_map, codes, string_bytes}
use Rattle.cfg_print.proofs.Grown.{lines_grown, lines_end}
use Rattle.cfg_ast.specs.printing.Printed.{line, prefix_list_lines, community_list_lines, route_map_lines, router_lines}
use Rattle.cfg_print.specs.Fronts.{router_front}
use Rattle.cfg_print.proofs.routers.put_router.Goals as goal

pub returns : goal.returns
unfolding router_front router_lines
returns c =
    let old = string_bytes c.args.text.now in
    let front = router_front c.args.router.now c.args.members.now in
    let prefixes = prefix_list_lines c.args.router.now.prefix_lists in
    let with_prefixes = lines_grown old front (string_bytes c.put_front.new.text) prefixes (string_bytes c.put_prefix_lists.new.text) c.in_ok-put_front.ensures
    c.in_ok-put_prefix_lists.ensures in
    let comms = community_list_lines c.args.router.now.community_lists in
    let with_comms = lines_grown old (front ++ prefixes) (string_bytes c.put_prefix_lists.new.text) comms (string_bytes c.put_community_lists.new.text)
    with_prefixes c.in_ok-put_community_lists.ensures in
    let maps = flat_map route_map_lines c.args.router.now.route_maps in
    let with_maps = lines_grown old ((front ++ prefixes) ++ comms) (string_bytes c.put_community_lists.new.text) maps (string_bytes c.put_route_maps.new.text)
    with_comms c.in_ok-put_route_maps.ensures in
    lines_end c.put_end.result old (((front ++ prefixes) ++ comms) ++ maps) (string_bytes c.put_route_maps.new.text) (line 0 (codes "end" ∷ []) ∷ [])
    (string_bytes c.put_end.new.text) with_maps c.put_end.ensures
