-- The printed lines of a router are read back as the router.
use Rattle.std.proofs.Common.{◌≡◌, ℕ, true, false, List, [], ◌∷◌, ◌++◌, filter, map, Option, Some, None, Ok, refl, sym, ap, ◌∙◌}
use Rattle.std.specs.Prelude.{IfSome, codes}
use Rattle.std.specs.Fmt.{decimal}
use Rattle.std.specs.Option.{option_map}
use Rattle.std.specs.List.{AllByRecursion, IsDistinct, list_any, flat_map}
use Rattle.std.proofs.lemmas.List.{append-nil}
use Rattle.cfg_ast.specs.declared.network.Named.{Named}
use Rattle.cfg_ast.specs.declared.network.Router.{Router}
use Rattle.cfg_ast.specs.declared.interface.Interface.{Interface}
use Rattle.cfg_ast.specs.declared.bgp.BgpProcess.{BgpProcess}
use Rattle.cfg_ast.specs.declared.ospf.OspfProcess.{OspfProcess}
use Rattle.cfg_ast.specs.declared.items.RouterItem.TheVariants as item
use Rattle.cfg_ast.specs.text.TextLines.{TextLine}
use Rattle.cfg_ast.specs.text.PolicyLines.{is_policy_line}
use Rattle.cfg_ast.specs.text.Words.{is_router_name}
use Rattle.cfg_ast.specs.text.Reading.{in_interface, in_bgp, in_ospf, Draft, no_draft, with_closed, has_interface, new_interface, new_bgp, new_ospf, take_line, take_top, end_router, step_router, step, steps}
use Rattle.cfg_ast.specs.printing.Printed.{line, closing, interface_lines, bgp_lines, ospf_lines, prefix_list_lines, community_list_lines, route_map_lines, lines_of_some, member_line, router_lines}
use Rattle.cfg_ast.specs.printing.Bare.{bare_interface, bare_bgp, bare_ospf, bare_prefix_list, bare_community_list, bare_route_map, bare_router}
use Rattle.cfg_ast.specs.printing.WellFormed.{IsWellFormedInterface, same_interface, IsWellFormedBgp, IsWellFormedOspf, IsWellFormedRouter}
use Rattle.cfg_round_trip.proofs.ItemsBack.{hostname_item, interface_item, bgp_item, ospf_item, end_item}
use Rattle.cfg_round_trip.proofs.PrintedLines.{is_read}
use Rattle.cfg_round_trip.proofs.ReadBack.{at_draft, then_steps, one_step, router_top, Reads, reads_none, reads_then, reads_line, reads_stanza, reads_skipped, AreNew, new_to_none, new_to_more, grown}
use Rattle.cfg_round_trip.proofs.InterfaceBack.{interface_rest, interface_inner}
use Rattle.cfg_round_trip.proofs.BgpBack.{bgp_rest, bgp_inner}
use Rattle.cfg_round_trip.proofs.OspfBack.{ospf_rest, ospf_inner}
use Rattle.cfg_round_trip.proofs.PrefixListsBack.{draft_of, closed_draft, prefix_lists_back, community_lists_back}
use Rattle.cfg_round_trip.proofs.RouteMapsBack.{route_maps_back}

-- ---- the name

abbrev host : List ℕ → Option Named
host name = Some (record { name = name; line = 0 })

hostname_back : (name : List ℕ) → is_router_name name ≡ true
    → Reads (line 0 (codes "hostname" ∷ name ∷ []) ∷ []) no_draft (draft_of (host name) [] None None [] [] [])
unfolding take_top take_line is_policy_line
hostname_back name is =
    reads_line (line 0 (codes "hostname" ∷ name ∷ [])) no_draft (draft_of (host name) [] None None [] [] []) refl
    (router_top (line 0 (codes "hostname" ∷ name ∷ [])) (item.Hostname name) no_draft (draft_of (host name) [] None None [] [] []) refl refl
    (hostname_item name is) (λ rs. refl))
    (closed_draft (host name) [] None None [] [] [])

members_skipped : (names : List (List ℕ)) → AllByRecursion (λ (l : TextLine). is_read l ≡ false) (map member_line names)
unfolding member_line
members_skipped [] = tt
members_skipped (name ∷ names) = (refl, members_skipped names)

-- ---- interfaces

abbrev with_interfaces : List ℕ → List Interface → Draft
with_interfaces name interfaces = draft_of (host name) interfaces None None [] [] []

interface_block : (name : List ℕ) (done : List Interface) (i : Interface) → IsWellFormedInterface i →
    list_any (λ (x : Interface). same_interface x i) done ≡ false →
    Reads (interface_lines i) (with_interfaces name done) (with_interfaces name (done ++ bare_interface i ∷ []))
unfolding interface_lines take_top take_line is_policy_line with_closed has_interface
interface_block name done i is new =
    reads_stanza (line 0 (codes "interface" ∷ i.name ∷ [])) (interface_rest i) (with_interfaces name done) (in_interface (new_interface 0 i.name))
    (in_interface (bare_interface i)) refl
    (router_top (line 0 (codes "interface" ∷ i.name ∷ [])) (item.Interface i.name) (with_interfaces name done)
    (record (with_interfaces name done) { stanza = in_interface (new_interface 0 i.name) }) refl refl (interface_item i.name is.name) (λ rs. rw new refl))
    (interface_inner i is)

interfaces_stage : (name : List ℕ) (done is : List Interface) → AllByRecursion IsWellFormedInterface is → IsDistinct same_interface is →
    AreNew same_interface done is
    → Reads (flat_map interface_lines is) (with_interfaces name done) (with_interfaces name (done ++ map bare_interface is))
unfolding IsDistinct
interfaces_stage name done [] are once new rs now same = let whole = reads_none (with_interfaces name done) rs now same in
    (whole.0, whole.1, whole.2 ∙ ap (with_interfaces name) (sym (append-nil done)))
interfaces_stage name done (i ∷ is) are once new rs now same =
    let first = interface_block name done i are.0 new.0 in
    let rest = interfaces_stage name (done ++ bare_interface i ∷ []) is are.1 once.1 (new_to_more same_interface done (bare_interface i) is new.1 once.0) in
    let whole = reads_then (interface_lines i) (flat_map interface_lines is) _ _ _ first rest rs now same in
    (whole.0, whole.1, whole.2 ∙ ap (with_interfaces name) (grown done (bare_interface i) (map bare_interface is)))

-- ---- processes

bgp_back : (name : List ℕ) (interfaces : List Interface) (o : Option BgpProcess) → IfSome o IsWellFormedBgp →
    Reads (lines_of_some bgp_lines o) (draft_of (host name) interfaces None None [] [] [])
    (draft_of (host name) interfaces (option_map bare_bgp o) None [] [] [])
unfolding bgp_lines take_top take_line is_policy_line with_closed
bgp_back name interfaces None is = reads_none _
bgp_back name interfaces (Some b) is =
    let d = draft_of (host name) interfaces None None [] [] [] in
    reads_stanza (line 0 (codes "router" ∷ codes "bgp" ∷ decimal b.number ∷ [])) (bgp_rest b) d (in_bgp (new_bgp 0 b.number)) (in_bgp (bare_bgp b)) refl
    (router_top (line 0 (codes "router" ∷ codes "bgp" ∷ decimal b.number ∷ [])) (item.Bgp b.number) d (record d { stanza = in_bgp (new_bgp 0 b.number) }) refl
    refl (bgp_item b.number is.number) (λ rs. refl))
    (bgp_inner b is)

ospf_back : (name : List ℕ) (interfaces : List Interface) (bgp : Option BgpProcess) (o : Option OspfProcess) → IfSome o IsWellFormedOspf →
    Reads (lines_of_some ospf_lines o) (draft_of (host name) interfaces bgp None [] [] [])
    (draft_of (host name) interfaces bgp (option_map bare_ospf o) [] [] [])
unfolding ospf_lines take_top take_line is_policy_line with_closed
ospf_back name interfaces bgp None is = reads_none _
ospf_back name interfaces bgp (Some o) is =
    let d = draft_of (host name) interfaces bgp None [] [] [] in
    reads_stanza (line 0 (codes "router" ∷ codes "ospf" ∷ decimal o.number ∷ [])) (ospf_rest o) d (in_ospf (new_ospf 0 o.number)) (in_ospf (bare_ospf o)) refl
    (router_top (line 0 (codes "router" ∷ codes "ospf" ∷ decimal o.number ∷ [])) (item.Ospf o.number) d (record d { stanza = in_ospf (new_ospf 0 o.number) })
    refl refl (ospf_item o.number is.number) (λ rs. refl))
    (ospf_inner o is)

-- ---- the router

abbrev pub end_line : TextLine
end_line = line 0 (codes "end" ∷ [])

end_stepped : (rs : List Router) (now d : Draft) → with_closed now ≡ d → step (at_draft rs now) end_line ≡ end_router 0 (at_draft rs d)
unfolding step step_router take_top is_policy_line
end_stepped rs now d same = rw (end_item, same) refl

-- all lines except the last one
abbrev pub router_front : Router → List (List ℕ) → List TextLine
router_front r names =
    line 0 (codes "hostname" ∷ r.name ∷ [])
    ∷ map member_line names ++ closing
    ∷ flat_map interface_lines r.interfaces
    ++ lines_of_some bgp_lines r.bgp
    ++ lines_of_some ospf_lines r.ospf
    ++ prefix_list_lines r.prefix_lists
    ++ community_list_lines r.community_lists
    ++ flat_map route_map_lines r.route_maps

abbrev bare_draft_of : Router → Draft
bare_draft_of r = draft_of (host r.name) (map bare_interface r.interfaces) (option_map bare_bgp r.bgp) (option_map bare_ospf r.ospf)
    (map bare_prefix_list r.prefix_lists) (map bare_community_list r.community_lists) (map bare_route_map r.route_maps)

front_back : (r : Router) (names : List (List ℕ)) → IsWellFormedRouter r → Reads (router_front r names) no_draft (bare_draft_of r)
front_back r names is =
    let interfaces = map bare_interface r.interfaces in
    let bgp = option_map bare_bgp r.bgp in
    let ospf = option_map bare_ospf r.ospf in
    let prefix_lists = map bare_prefix_list r.prefix_lists in
    let community_lists = map bare_community_list r.community_lists in
    let zero = line 0 (codes "hostname" ∷ r.name ∷ []) ∷ map member_line names in
    let one = closing ∷ flat_map interface_lines r.interfaces in
    let two = lines_of_some bgp_lines r.bgp in
    let three = lines_of_some ospf_lines r.ospf in
    let four = prefix_list_lines r.prefix_lists in
    let five = community_list_lines r.community_lists in
    let six = flat_map route_map_lines r.route_maps in
    reads_then (zero ++ one ++ two ++ three ++ four ++ five) six _ _ _
    (reads_then (zero ++ one ++ two ++ three ++ four) five _ _ _
    (reads_then (zero ++ one ++ two ++ three) four _ _ _
    (reads_then (zero ++ one ++ two) three _ _ _
    (reads_then (zero ++ one) two _ _ _
    (reads_then zero one _ (draft_of (host r.name) [] None None [] [] []) _
    (reads_then (line 0 (codes "hostname" ∷ r.name ∷ []) ∷ []) (map member_line names) _ _ _ (hostname_back r.name is.name)
    (reads_skipped (map member_line names) (draft_of (host r.name) [] None None [] [] []) (members_skipped names)))
    (reads_then (closing ∷ []) (flat_map interface_lines r.interfaces) _ _ _
    (reads_skipped (closing ∷ []) (draft_of (host r.name) [] None None [] [] []) (refl, tt))
    (interfaces_stage r.name [] r.interfaces is.interfaces is.interfaces_once (new_to_none same_interface r.interfaces))))
    (bgp_back r.name interfaces r.bgp is.bgp))
    (ospf_back r.name interfaces bgp r.ospf is.ospf))
    (prefix_lists_back (host r.name) interfaces bgp ospf r.prefix_lists is.prefix_lists is.prefix_lists_once))
    (community_lists_back (host r.name) interfaces bgp ospf prefix_lists r.community_lists is.community_lists is.community_lists_once))
    (route_maps_back (host r.name) interfaces bgp ospf prefix_lists community_lists r.route_maps is.route_maps is.route_maps_once)

pub router_back : (r : Router) (names : List (List ℕ)) (rs : List Router) → IsWellFormedRouter r →
    steps (at_draft rs no_draft) (filter is_read (router_lines r names)) ≡ Ok (at_draft (rs ++ bare_router r ∷ []) no_draft)
unfolding router_lines with_closed
router_back r names rs is =
    let front = front_back r names is rs no_draft refl in
    then_steps (router_front r names) (end_line ∷ []) (at_draft rs no_draft) (at_draft rs front.0) (Ok (at_draft (rs ++ bare_router r ∷ []) no_draft)) front.1
    (one_step end_line (at_draft rs front.0) (at_draft (rs ++ bare_router r ∷ []) no_draft) refl (end_stepped rs front.0 (bare_draft_of r) front.2))
