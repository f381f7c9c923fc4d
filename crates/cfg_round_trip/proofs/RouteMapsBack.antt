-- The printed lines of route maps are read back as these maps.
use Rattle.std.proofs.Common.{◌≡◌, ℕ, ◌<◌, ◌≤◌, false, List, [], ◌∷◌, ◌++◌, length, map, Option, refl, sym, ap, ◌∙◌, arith}
use Rattle.std.specs.Prelude.{nat_lt}
use Rattle.std.specs.List.{AllByRecursion, IsDistinct, list_any, flat_map}
use Rattle.std.proofs.lemmas.List.{append-nil}
use Rattle.base_kit.specs.Sets.{IsAscending}
use Rattle.cfg_ast.specs.declared.network.Named.{Named}
use Rattle.cfg_ast.specs.declared.interface.Interface.{Interface}
use Rattle.cfg_ast.specs.declared.bgp.BgpProcess.{BgpProcess}
use Rattle.cfg_ast.specs.declared.ospf.OspfProcess.{OspfProcess}
use Rattle.cfg_ast.specs.declared.policy.PrefixList.{PrefixList}
use Rattle.cfg_ast.specs.declared.policy.CommunityList.{CommunityList}
use Rattle.cfg_ast.specs.declared.policy.MapEntry.{MapEntry}
use Rattle.cfg_ast.specs.declared.policy.RouteMap.{RouteMap}
use Rattle.cfg_ast.specs.declared.items.PolicyItem.TheVariants as item
use Rattle.cfg_ast.specs.text.PolicyForms.{empty_entry}
use Rattle.cfg_ast.specs.text.PolicyLines.{is_policy_line, is_route_map, has_entry_seq, has_map_entry, put_map_entry, with_map_entry}
use Rattle.cfg_ast.specs.text.Reading.{in_entry, Draft, with_closed, take_policy}
use Rattle.cfg_ast.specs.printing.Printed.{map_head_line, map_entry_lines, route_map_lines}
use Rattle.cfg_ast.specs.printing.Bare.{bare_map_entry, bare_route_map}
use Rattle.cfg_ast.specs.printing.WellFormed.{IsListName, IsWellFormedMapEntry, map_seqs, IsWellFormedRouteMap, same_route_map}
use Rattle.cfg_round_trip.proofs.PolicyItemsBack.{map_head_item}
use Rattle.cfg_round_trip.proofs.ReadBack.{policy_top, Reads, reads_none, reads_then, reads_stanza, AreNew, new_to_none, new_to_more, grown}
use Rattle.cfg_round_trip.proofs.ListsBack.{new_last, change_last, put_last, AreBelow, below_none, below_more, none_later, none_same, no_name_no_number, last_no_number, same_bytes}
use Rattle.cfg_round_trip.proofs.EntryBack.{entry_rest, entry_inner}
use Rattle.cfg_round_trip.proofs.PrefixListsBack.{draft_of}

-- the draft without its route maps
record Rest : Type 0 where
  name : Option Named
  interfaces : List Interface
  bgp : Option BgpProcess
  ospf : Option OspfProcess
  prefix_lists : List PrefixList
  community_lists : List CommunityList

abbrev with_maps : Rest → List RouteMap → Draft
with_maps r maps = draft_of r.name r.interfaces r.bgp r.ospf r.prefix_lists r.community_lists maps

abbrev map_with : List ℕ → List MapEntry → RouteMap
map_with name entries = record { name = name; entries = entries }

entry_block : (r : Rest) (name : List ℕ) (e : MapEntry) (before after : List RouteMap) → IsListName name → IsWellFormedMapEntry e →
    has_map_entry before name e.seq ≡ false → with_map_entry name (bare_map_entry e) before ≡ after
    → Reads (map_entry_lines name e) (with_maps r before) (with_maps r after)
unfolding map_entry_lines map_head_line take_policy is_policy_line with_closed
entry_block r name e before after named is new made rs now same =
    let whole = reads_stanza (map_head_line name e) (entry_rest e) (with_maps r before) (in_entry name (empty_entry e.seq e.permit 0))
    (in_entry name (bare_map_entry e)) refl
    (policy_top (map_head_line name e) (item.MapHead name (empty_entry e.seq e.permit 0)) (with_maps r before)
    (record (with_maps r before) { stanza = in_entry name (empty_entry e.seq e.permit 0) }) refl refl (map_head_item name e named is.seq) (rw new refl))
    (entry_inner name e is) rs now same in
    (whole.0, whole.1, whole.2 ∙ ap (with_maps r) made)

-- an entry of a map that has none yet
begin_map : (name : List ℕ) (e : MapEntry) (done : List RouteMap) → list_any (is_route_map name) done ≡ false →
    with_map_entry name (bare_map_entry e) done ≡ done ++ map_with name (bare_map_entry e ∷ []) ∷ []
begin_map name e done new = new_last (is_route_map name) (put_map_entry (bare_map_entry e)) (map_with name (bare_map_entry e ∷ [])) done new

-- an entry of the last map, behind all others
extend_map : (name : List ℕ) (e : MapEntry) (done : List RouteMap) (entries : List MapEntry) → list_any (is_route_map name) done ≡ false →
    AllByRecursion (λ (x : MapEntry). x.seq < e.seq) entries
    → with_map_entry name (bare_map_entry e) (done ++ map_with name entries ∷ []) ≡ done ++ map_with name (entries ++ bare_map_entry e ∷ []) ∷ []
extend_map name e done entries new below =
    change_last (is_route_map name) (put_map_entry (bare_map_entry e)) (map_with name (bare_map_entry e ∷ [])) done (map_with name entries) new
    (same_bytes name)
    ∙ ap (λ (es : List MapEntry). done ++ map_with name es ∷ [])
    (put_last (λ (x : MapEntry). nat_lt e.seq x.seq) (bare_map_entry e) entries (none_later (λ (x : MapEntry). x.seq) e.seq entries below))

no_entry : (name : List ℕ) (seq : ℕ) (done : List RouteMap) → list_any (is_route_map name) done ≡ false → has_map_entry done name seq ≡ false
unfolding has_map_entry
no_entry name seq done new = no_name_no_number (is_route_map name) (λ (m : RouteMap). has_entry_seq m.entries seq) done new

no_last_entry : (name : List ℕ) (seq : ℕ) (done : List RouteMap) (entries : List MapEntry) → list_any (is_route_map name) done ≡ false →
    AllByRecursion (λ (x : MapEntry). x.seq < seq) entries → has_map_entry (done ++ map_with name entries ∷ []) name seq ≡ false
unfolding has_map_entry
no_last_entry name seq done entries new below =
    last_no_number (is_route_map name) (λ (m : RouteMap). has_entry_seq m.entries seq) done (map_with name entries) new
    (none_same (λ (x : MapEntry). x.seq) seq entries below)

entries_stage : (r : Rest) (name : List ℕ) (done : List RouteMap) (before es : List MapEntry) → IsListName name → list_any (is_route_map name) done ≡ false →
    AllByRecursion IsWellFormedMapEntry es → IsAscending (map_seqs es) → AreBelow (λ (x : MapEntry). x.seq) before es
    → Reads (flat_map (map_entry_lines name) es) (with_maps r (done ++ map_with name before ∷ []))
    (with_maps r (done ++ map_with name (before ++ map bare_map_entry es) ∷ []))
entries_stage r name done before [] named new are up below rs now same = let whole = reads_none (with_maps r (done ++ map_with name before ∷ [])) rs now same in
    (whole.0, whole.1, whole.2 ∙ ap (λ (xs : List MapEntry). with_maps r (done ++ map_with name xs ∷ [])) (sym (append-nil before)))
entries_stage r name done before (e ∷ es) named new are up below rs now same =
    let grows = before ++ bare_map_entry e ∷ [] in
    let first = entry_block r name e (done ++ map_with name before ∷ []) (done ++ map_with name grows ∷ []) named are.0
    (no_last_entry name e.seq done before new below.0) (extend_map name e done before new below.0) in
    let rest = entries_stage r name done grows es named new are.1 up.1 (below_more (λ (x : MapEntry). x.seq) before (bare_map_entry e) es below.1 up.0) in
    let whole = reads_then (map_entry_lines name e) (flat_map (map_entry_lines name) es) _ _ _ first rest rs now same in (
      whole.0,
      whole.1,
      whole.2 ∙ ap (λ (xs : List MapEntry). with_maps r (done ++ map_with name xs ∷ []))
          (grown before (bare_map_entry e) (map bare_map_entry es)),
    )

map_case : (r : Rest) (name : List ℕ) (done : List RouteMap) (entries : List MapEntry) → IsListName name → list_any (is_route_map name) done ≡ false →
    1 ≤ length entries → AllByRecursion IsWellFormedMapEntry entries → IsAscending (map_seqs entries)
    → Reads (flat_map (map_entry_lines name) entries) (with_maps r done) (with_maps r (done ++ map_with name (map bare_map_entry entries) ∷ []))
map_case r name done [] named new some are up = absurd (omega arith)
map_case r name done (e ∷ es) named new some are up =
    reads_then (map_entry_lines name e) (flat_map (map_entry_lines name) es) _ _ _
    (entry_block r name e done (done ++ map_with name (bare_map_entry e ∷ []) ∷ []) named are.0 (no_entry name e.seq done new) (begin_map name e done new))
    (entries_stage r name done (bare_map_entry e ∷ []) es named new are.1 up.1
    (below_more (λ (x : MapEntry). x.seq) [] (bare_map_entry e) es (below_none (λ (x : MapEntry). x.seq) es) up.0))

maps_stage : (r : Rest) (done ms : List RouteMap) → AllByRecursion IsWellFormedRouteMap ms → IsDistinct same_route_map ms → AreNew same_route_map done ms
    → Reads (flat_map route_map_lines ms) (with_maps r done) (with_maps r (done ++ map bare_route_map ms))
unfolding IsDistinct
maps_stage r done [] are once new rs now same = let whole = reads_none (with_maps r done) rs now same in
    (whole.0, whole.1, whole.2 ∙ ap (with_maps r) (sym (append-nil done)))
maps_stage r done (m ∷ ms) are once new rs now same =
    let first = map_case r m.name done m.entries are.0.name new.0 are.0.some are.0.entries are.0.ascending in
    let rest = maps_stage r (done ++ bare_route_map m ∷ []) ms are.1 once.1 (new_to_more same_route_map done (bare_route_map m) ms new.1 once.0) in
    let whole = reads_then (route_map_lines m) (flat_map route_map_lines ms) _ _ _ first rest rs now same in
    (whole.0, whole.1, whole.2 ∙ ap (with_maps r) (grown done (bare_route_map m) (map bare_route_map ms)))

pub route_maps_back : (name : Option Named) (interfaces : List Interface) (bgp : Option BgpProcess) (ospf : Option OspfProcess) (ps : List PrefixList)
    (cs : List CommunityList) (ms : List RouteMap) → AllByRecursion IsWellFormedRouteMap ms → IsDistinct same_route_map ms
    → Reads (flat_map route_map_lines ms) (draft_of name interfaces bgp ospf ps cs []) (draft_of name interfaces bgp ospf ps cs (map bare_route_map ms))
route_maps_back name interfaces bgp ospf ps cs ms are once =
    maps_stage (record { name = name; interfaces = interfaces; bgp = bgp; ospf = ospf; prefix_lists = ps; community_lists = cs }) [] ms are once
    (new_to_none same_route_map ms)
