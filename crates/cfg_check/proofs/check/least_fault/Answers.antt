use Rattle.std.proofs.Common.{List, [], ◌++◌, None, map, filter_map, flat_map, refl, ap, ◌∙◌}
use Rattle.cfg_ast.specs.declared.network.Router.{Router}
use Rattle.cfg_ast.specs.declared.policy.Mention.{Mention}
use Rattle.cfg_ast.specs.declared.refusal.Kind.TheVariants as kind
use Rattle.cfg_ast.specs.declared.refusal.Fault.{Fault}
use Rattle.cfg_ast.specs.meaning.Topology.{neighbors_of}
use Rattle.cfg_ast.specs.meaning.Meaning.{meaning_faults, faults_at}
use Rattle.cfg_ast.specs.meaning.PolicyFaults.{undefined_map_lines, undefined_list_lines, delete_list_lines, too_many_communities_lines, prepend_form_lines, prepend_in_lines, undefined_maps_of, undefined_lists_of, wide_deletions_of, foreign_prepends_of, prepending_maps_in_of}
use Rattle.cfg_check.specs.Communities.{exceeding_mentions}
use Rattle.cfg_ast.specs.meaning.RouterFaults.{shared_name_lines, shared_as_lines, internal_peer_lines, mixed_protocol_lines, other_area_lines, shared_address_lines, overlapping_lines, loopback_mask_lines, no_cost_lines, too_many_routers_lines, too_many_neighbors_lines, too_many_links_lines, address_line, repeats, unlike_first, first_beyond, internal_peers_of, same_protocol, protocol_lines_of, areas_of, up_addresses_of, area_addresses_with, is_wide_loopback, exceeding, added_after}
use Rattle.cfg_check.specs.Items.{router_line, process_line, neighbor_line, area_line, line_of_protocol, same_name, bgp_of, same_number, same_area, same_address, overlapping_in, has_no_cost}
use Rattle.cfg_check.specs.LeastLine.{least_line}
use Rattle.cfg_check.proofs.LeastFault.{kind_step}
use Rattle.cfg_check.proofs.check.least_fault.Goals as goal

pub returns : goal.returns
unfolding meaning_faults shared_name_lines shared_as_lines internal_peer_lines mixed_protocol_lines other_area_lines undefined_map_lines undefined_list_lines
    delete_list_lines shared_address_lines overlapping_lines loopback_mask_lines no_cost_lines too_many_routers_lines too_many_communities_lines
    too_many_neighbors_lines too_many_links_lines prepend_form_lines prepend_in_lines
returns c =
    let n = c.args.network.now in
    let same = c.as_slice-routers.ensures in
    let s1 = kind_step [] kind.SharedName (shared_name_lines n) None c.with_fault-least.result c.in_ok-shared_name.field-0 refl
    (c.in_ok-shared_name.ensures ∙ ap (λ (rs : List Router). least_line (map router_line (repeats same_name rs))) same) c.with_fault-least.ensures in
    let f1 : List Fault = faults_at kind.SharedName (shared_name_lines n) in
    let s2 = kind_step f1 kind.SharedAs (shared_as_lines n) c.with_fault-least.result c.with_fault-least-2.result c.in_ok-shared_as.field-0 s1
    (c.in_ok-shared_as.ensures ∙ ap (λ (rs : List Router). least_line (map process_line (repeats same_number (filter_map bgp_of rs)))) same)
    c.with_fault-least-2.ensures in
    let f2 : List Fault = f1 ++ faults_at kind.SharedAs (shared_as_lines n) in
    let s3 = kind_step f2 kind.InternalPeer (internal_peer_lines n) c.with_fault-least-2.result c.with_fault-least-3.result c.internal_peer.result s2
    (c.internal_peer.ensures ∙ ap (λ (rs : List Router). least_line (map neighbor_line (flat_map internal_peers_of rs))) same) c.with_fault-least-3.ensures
    in
    let f3 : List Fault = f2 ++ faults_at kind.InternalPeer (internal_peer_lines n) in
    let s4 = kind_step f3 kind.MixedProtocols (mixed_protocol_lines n) c.with_fault-least-3.result c.with_fault-least-4.result c.mixed_protocols.result s3
    (c.mixed_protocols.ensures ∙ ap (λ (rs : List Router). least_line (map line_of_protocol (unlike_first same_protocol (flat_map protocol_lines_of rs))))
    same) c.with_fault-least-4.ensures in
    let f4 : List Fault = f3 ++ faults_at kind.MixedProtocols (mixed_protocol_lines n) in
    let s5 = kind_step f4 kind.OtherArea (other_area_lines n) c.with_fault-least-4.result c.with_fault-least-5.result c.other_area.result s4
    (c.other_area.ensures ∙ ap (λ (rs : List Router). least_line (map area_line (unlike_first same_area (flat_map areas_of rs)))) same)
    c.with_fault-least-5.ensures in
    let f5 : List Fault = f4 ++ faults_at kind.OtherArea (other_area_lines n) in
    let s6 = kind_step f5 kind.UndefinedMap (undefined_map_lines n) c.with_fault-least-5.result c.with_fault-least-6.result c.in_ok-undefined_map.field-0 s5
    (c.in_ok-undefined_map.ensures ∙ ap (λ (rs : List Router). least_line (flat_map undefined_maps_of rs)) same) c.with_fault-least-6.ensures in
    let f6 : List Fault = f5 ++ faults_at kind.UndefinedMap (undefined_map_lines n) in
    let s7 = kind_step f6 kind.UndefinedList (undefined_list_lines n) c.with_fault-least-6.result c.with_fault-least-7.result c.in_ok-undefined_list.field-0 s6
    (c.in_ok-undefined_list.ensures ∙ ap (λ (rs : List Router). least_line (flat_map undefined_lists_of rs)) same) c.with_fault-least-7.ensures in
    let f7 : List Fault = f6 ++ faults_at kind.UndefinedList (undefined_list_lines n) in
    let s8 = kind_step f7 kind.DeleteListForm (delete_list_lines n) c.with_fault-least-7.result c.with_fault-least-8.result c.in_ok-delete_list_form.field-0 s7
    (c.in_ok-delete_list_form.ensures ∙ ap (λ (rs : List Router). least_line (flat_map wide_deletions_of rs)) same) c.with_fault-least-8.ensures in
    let f8 : List Fault = f7 ++ faults_at kind.DeleteListForm (delete_list_lines n) in
    let s9 = kind_step f8 kind.SharedAddress (shared_address_lines n) c.with_fault-least-8.result c.with_fault-least-9.result c.in_ok-shared_address.field-0 s8
    (c.in_ok-shared_address.ensures ∙ ap (λ (rs : List Router). least_line (map address_line (repeats same_address (flat_map up_addresses_of rs)))) same)
    c.with_fault-least-9.ensures in
    let f9 : List Fault = f8 ++ faults_at kind.SharedAddress (shared_address_lines n) in
    let s10 = kind_step f9 kind.OverlappingInterfaces (overlapping_lines n) c.with_fault-least-9.result c.with_fault-least-10.result
    c.in_ok-overlapping.overlapping s9 (c.in_ok-overlapping.ensures
    ∙ ap (λ (rs : List Router). least_line (map address_line (flat_map overlapping_in rs))) same) c.with_fault-least-10.ensures in
    let f10 : List Fault = f9 ++ faults_at kind.OverlappingInterfaces (overlapping_lines n) in
    let s11 = kind_step f10 kind.LoopbackMask (loopback_mask_lines n) c.with_fault-least-10.result c.with_fault-least-11.result
    c.in_ok-in_area.in_area.wide_loopback s10 (c.in_ok-in_area.ensures.wide_loopback
    ∙ ap (λ (rs : List Router). least_line (map address_line (flat_map (area_addresses_with is_wide_loopback) rs))) same) c.with_fault-least-11.ensures
    in
    let f11 : List Fault = f10 ++ faults_at kind.LoopbackMask (loopback_mask_lines n) in
    let s12 = kind_step f11 kind.NoCost (no_cost_lines n) c.with_fault-least-11.result c.with_fault-least-12.result c.in_ok-in_area.in_area.no_cost s11
    (c.in_ok-in_area.ensures.no_cost ∙ ap (λ (rs : List Router). least_line (map address_line (flat_map (area_addresses_with has_no_cost) rs))) same)
    c.with_fault-least-12.ensures in
    let f12 : List Fault = f11 ++ faults_at kind.NoCost (no_cost_lines n) in
    let s13 = kind_step f12 kind.TooManyRouters (too_many_routers_lines n) c.with_fault-least-12.result c.with_fault-least-13.result c.too_many_routers.result
    s12 (c.too_many_routers.ensures ∙ ap (λ (rs : List Router). least_line (map router_line (first_beyond 4096 rs))) same) c.with_fault-least-13.ensures in
    let f13 : List Fault = f12 ++ faults_at kind.TooManyRouters (too_many_routers_lines n) in
    let s14 = kind_step f13 kind.TooManyCommunities (too_many_communities_lines n) c.with_fault-least-13.result c.with_fault-least-14.result
    c.in_ok-communities.communities s13 (c.in_ok-communities.ensures ∙ ap (λ (ms : List Mention). least_line (exceeding_mentions 1024 ms)) c.requires)
    c.with_fault-least-14.ensures in
    let f14 : List Fault = f13 ++ faults_at kind.TooManyCommunities (too_many_communities_lines n) in
    let s15 = kind_step f14 kind.TooManyNeighbors (too_many_neighbors_lines n) c.with_fault-least-14.result c.with_fault-least-15.result
    c.too_many_neighbors.result s14 (c.too_many_neighbors.ensures
    ∙ ap (λ (rs : List Router). least_line (map neighbor_line (first_beyond 131072 (flat_map neighbors_of rs)))) same) c.with_fault-least-15.ensures in
    let f15 : List Fault = f14 ++ faults_at kind.TooManyNeighbors (too_many_neighbors_lines n) in
    let s16 = kind_step f15 kind.TooManyLinks (too_many_links_lines n) c.with_fault-least-15.result c.with_fault-least-16.result c.in_ok-too_many_links.field-0
    s15 (c.in_ok-too_many_links.ensures ∙ ap (λ (rs : List Router). least_line (exceeding 1048576 0 (added_after [] rs))) same)
    c.with_fault-least-16.ensures in
    let f16 : List Fault = f15 ++ faults_at kind.TooManyLinks (too_many_links_lines n) in
    let s17 = kind_step f16 kind.PrependForm (prepend_form_lines n) c.with_fault-least-16.result c.with_fault-least-17.result c.prepend_form.result s16
    (c.prepend_form.ensures ∙ ap (λ (rs : List Router). least_line (flat_map foreign_prepends_of rs)) same) c.with_fault-least-17.ensures in
    let f17 : List Fault = f16 ++ faults_at kind.PrependForm (prepend_form_lines n) in
    kind_step f17 kind.PrependIn (prepend_in_lines n) c.with_fault-least-17.result c.with_fault-least-18.result c.in_ok-prepend_in.field-0 s17
    (c.in_ok-prepend_in.ensures ∙ ap (λ (rs : List Router). least_line (flat_map prepending_maps_in_of rs)) same) c.with_fault-least-18.ensures
