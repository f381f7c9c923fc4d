use Rattle.std.proofs.Common.{◌≡◌, ℕ, Bool, not, List, flat_map, ap, ◌∙◌}
use Rattle.std.specs.Prelude.{bytes_eq}
use Rattle.std.specs.List.{list_any}
use Rattle.cfg_ast.specs.declared.bgp.Neighbor.{Neighbor}
use Rattle.cfg_ast.specs.declared.policy.CommunityList.{CommunityList}
use Rattle.cfg_ast.specs.declared.policy.PrefixList.{PrefixList}
use Rattle.cfg_ast.specs.declared.policy.RouteMap.{RouteMap}
use Rattle.cfg_ast.specs.meaning.Topology.{neighbors_of}
use Rattle.cfg_ast.specs.meaning.PolicyFaults.{lacks_prefix_list, lacks_community_list, list_lines_naming, lines_in_map_naming}
use Rattle.cfg_check.specs.LeastLine.{least_line}
use Rattle.cfg_check.specs.NameSets.{lacks_name}
use Rattle.cfg_check.proofs.NameTurns.{lacks_is}
use Rattle.cfg_check.proofs.Turns.{both_lines}
use Rattle.cfg_check.proofs.undefined.undefined_lists_of.Goals as goal

pub returns : goal.returns
returns c =
    let router = c.args.router.now in
    let prefix_name : List PrefixList → List ℕ → Bool = λ lists q. list_any (λ (list : PrefixList). bytes_eq q list.name) lists in
    let comms_name : List CommunityList → List ℕ → Bool = λ lists q. list_any (λ (list : CommunityList). bytes_eq q list.name) lists in
    let no_prefix_name : List PrefixList → List ℕ → Bool = λ lists q. not (prefix_name lists q) in
    let no_comms_name : List CommunityList → List ℕ → Bool = λ lists q. not (comms_name lists q) in
    let no_prefix_list : lacks_name c.in_ok-prefixes.prefixes ≡ lacks_prefix_list router =
    lacks_is c.in_ok-prefixes.prefixes (prefix_name c.as_slice.result.now) c.in_ok-prefixes.ensures ∙ ap no_prefix_name c.as_slice.ensures in
    let no_comms_list : lacks_name c.in_ok-comms.comms ≡ lacks_community_list router =
    lacks_is c.in_ok-comms.comms (comms_name c.as_slice-2.result.now) c.in_ok-comms.ensures ∙ ap no_comms_name c.as_slice-2.ensures in
    let by_neighbors =
    c.undefined_lists_by_neighbors-by_neighbors.ensures
    ∙ ap (λ (test : List ℕ → Bool). least_line (flat_map (list_lines_naming test) c.neighbors.result.now)) no_prefix_list
    ∙ ap (λ (ns : List Neighbor). least_line (flat_map (list_lines_naming (lacks_prefix_list router)) ns)) c.neighbors.ensures in
    let by_maps =
    c.undefined_lists_by_maps-by_maps.ensures
    ∙ ap (λ (test : List ℕ → Bool). least_line (flat_map (lines_in_map_naming test (lacks_name c.in_ok-comms.comms)) c.as_slice-3.result.now)) no_prefix_list
    ∙ ap (λ (test : List ℕ → Bool). least_line (flat_map (lines_in_map_naming (lacks_prefix_list router) test) c.as_slice-3.result.now)) no_comms_list
    ∙ ap (λ (maps : List RouteMap). least_line (flat_map (lines_in_map_naming (lacks_prefix_list router) (lacks_community_list router)) maps))
    c.as_slice-3.ensures in
    c.lesser_line.ensures
    ∙ both_lines (flat_map (list_lines_naming (lacks_prefix_list router)) (neighbors_of router))
    (flat_map (lines_in_map_naming (lacks_prefix_list router) (lacks_community_list router)) router.route_maps) _ _ by_neighbors by_maps
