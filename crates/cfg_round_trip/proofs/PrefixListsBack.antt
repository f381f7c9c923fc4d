-- The printed lines of prefix lists and community lists are read back as these lists.
use Rattle.std.proofs.Common.{◌≡◌, ℕ, ◌<◌, ◌≤◌, false, List, [], ◌∷◌, ◌++◌, length, map, Option, refl, sym, ap, ◌∙◌, arith}
use Rattle.std.specs.Prelude.{nat_lt}
use Rattle.std.specs.List.{AllByRecursion, IsDistinct, list_any, flat_map}
use Rattle.std.proofs.lemmas.List.{append-nil}
use Rattle.base_kit.specs.Sets.{IsAscending}
use Rattle.cfg_ast.specs.declared.network.Named.{Named}
use Rattle.cfg_ast.specs.declared.interface.Interface.{Interface}
use Rattle.cfg_ast.specs.declared.bgp.BgpProcess.{BgpProcess}
use Rattle.cfg_ast.specs.declared.ospf.OspfProcess.{OspfProcess}
use Rattle.cfg_ast.specs.declared.policy.PrefixEntry.{PrefixEntry}
use Rattle.cfg_ast.specs.declared.policy.PrefixList.{PrefixList}
use Rattle.cfg_ast.specs.declared.policy.CommunityLine.{CommunityLine}
use Rattle.cfg_ast.specs.declared.policy.CommunityList.{CommunityList}
use Rattle.cfg_ast.specs.declared.policy.RouteMap.{RouteMap}
use Rattle.cfg_ast.specs.declared.items.PolicyItem.TheVariants as item
use Rattle.cfg_ast.specs.text.TextLines.{TextLine}
use Rattle.cfg_ast.specs.text.PolicyLines.{is_policy_line, is_prefix_list, has_seq, has_prefix_entry, put_prefix_entry, with_prefix_entry, is_community_list, put_community_line, with_community_line}
use Rattle.cfg_ast.specs.text.Reading.{closed, Draft, with_closed, take_policy}
use Rattle.cfg_ast.specs.printing.Printed.{closing, closed as closed_lines, prefix_entry_line, prefix_list_lines, community_list_line, community_list_lines}
use Rattle.cfg_ast.specs.printing.Bare.{bare_prefix_entry, bare_prefix_list, bare_community_line, bare_community_list}
use Rattle.cfg_ast.specs.printing.WellFormed.{IsListName, IsWellFormedPrefixEntry, prefix_seqs, IsWellFormedPrefixList, same_prefix_list, IsWellFormedCommunityLine, IsWellFormedCommunityList, same_community_list}
use Rattle.cfg_round_trip.proofs.PolicyItemsBack.{prefix_entry_item, community_item}
use Rattle.cfg_round_trip.proofs.ReadBack.{policy_top, Reads, reads_none, reads_then, reads_line, reads_skipped, AreNew, new_to_none, new_to_more, grown}
use Rattle.cfg_round_trip.proofs.ListsBack.{new_last, change_last, put_last, AreBelow, below_none, below_more, none_later, none_same, no_name_no_number, last_no_number, same_bytes}

-- a router of these parts, of which no stanza is open
abbrev pub draft_of : Option Named → List Interface → Option BgpProcess → Option OspfProcess → List PrefixList → List CommunityList → List RouteMap → Draft
draft_of name interfaces bgp ospf prefix_lists community_lists route_maps = record {
  name = name;
  interfaces = interfaces;
  bgp = bgp;
  ospf = ospf;
  prefix_lists = prefix_lists;
  community_lists = community_lists;
  route_maps = route_maps;
  stanza = closed;
}

pub closed_draft : (name : Option Named) (interfaces : List Interface) (bgp : Option BgpProcess) (ospf : Option OspfProcess) (ps : List PrefixList)
    (cs : List CommunityList) (ms : List RouteMap)
    → with_closed (draft_of name interfaces bgp ospf ps cs ms) ≡ draft_of name interfaces bgp ospf ps cs ms
unfolding with_closed
closed_draft name interfaces bgp ospf ps cs ms = refl

-- ---- prefix lists

-- an entry of a list that has none yet
begin_list : (name : List ℕ) (e : PrefixEntry) (done : List PrefixList) → list_any (is_prefix_list name) done ≡ false →
    with_prefix_entry name (bare_prefix_entry e) done ≡ done ++ record { name = name; entries = bare_prefix_entry e ∷ [] } ∷ []
begin_list name e done new = new_last (is_prefix_list name) (put_prefix_entry (bare_prefix_entry e))
    (record { name = name; entries = bare_prefix_entry e ∷ [] }) done new

abbrev list_with : List ℕ → List PrefixEntry → PrefixList
list_with name entries = record { name = name; entries = entries }

-- an entry of the last list, behind all others
extend_list : (name : List ℕ) (e : PrefixEntry) (done : List PrefixList) (entries : List PrefixEntry) → list_any (is_prefix_list name) done ≡ false →
    AllByRecursion (λ (x : PrefixEntry). x.seq < e.seq) entries
    → with_prefix_entry name (bare_prefix_entry e) (done ++ list_with name entries ∷ []) ≡ done ++ list_with name (entries ++ bare_prefix_entry e ∷ []) ∷ []
extend_list name e done entries new below =
    change_last (is_prefix_list name) (put_prefix_entry (bare_prefix_entry e)) (record { name = name; entries = bare_prefix_entry e ∷ [] }) done
    (list_with name entries) new (same_bytes name)
    ∙ ap (λ (es : List PrefixEntry). done ++ list_with name es ∷ [])
    (put_last (λ (x : PrefixEntry). nat_lt e.seq x.seq) (bare_prefix_entry e) entries (none_later (λ (x : PrefixEntry). x.seq) e.seq entries below))

no_entry : (name : List ℕ) (seq : ℕ) (done : List PrefixList) → list_any (is_prefix_list name) done ≡ false → has_prefix_entry done name seq ≡ false
unfolding has_prefix_entry
no_entry name seq done new = no_name_no_number (is_prefix_list name) (λ (l : PrefixList). has_seq l.entries seq) done new

no_last_entry : (name : List ℕ) (seq : ℕ) (done : List PrefixList) (entries : List PrefixEntry) → list_any (is_prefix_list name) done ≡ false →
    AllByRecursion (λ (x : PrefixEntry). x.seq < seq) entries → has_prefix_entry (done ++ list_with name entries ∷ []) name seq ≡ false
unfolding has_prefix_entry
no_last_entry name seq done entries new below =
    last_no_number (is_prefix_list name) (λ (l : PrefixList). has_seq l.entries seq) done (list_with name entries) new
    (none_same (λ (x : PrefixEntry). x.seq) seq entries below)

-- the draft without its prefix lists
record Rest : Type 0 where
  name : Option Named
  interfaces : List Interface
  bgp : Option BgpProcess
  ospf : Option OspfProcess

abbrev with_lists : Rest → List PrefixList → Draft
with_lists r lists = draft_of r.name r.interfaces r.bgp r.ospf lists [] []

entry_top : (r : Rest) (name : List ℕ) (e : PrefixEntry) (before after : List PrefixList) → IsListName name → IsWellFormedPrefixEntry e →
    has_prefix_entry before name e.seq ≡ false → with_prefix_entry name (bare_prefix_entry e) before ≡ after
    → Reads (prefix_entry_line name e ∷ []) (with_lists r before) (with_lists r after)
unfolding prefix_entry_line take_policy is_policy_line
entry_top r name e before after named is new made =
    reads_line (prefix_entry_line name e) (with_lists r before) (with_lists r after) refl
    (policy_top (prefix_entry_line name e) (item.PrefixEntry name (bare_prefix_entry e)) (with_lists r before) (with_lists r after) refl refl
    (prefix_entry_item name e named is) (rw (new, made) refl))
    (closed_draft r.name r.interfaces r.bgp r.ospf after [] [])

entries_stage : (r : Rest) (name : List ℕ) (done : List PrefixList) (before es : List PrefixEntry) → IsListName name →
    list_any (is_prefix_list name) done ≡ false → AllByRecursion IsWellFormedPrefixEntry es → IsAscending (prefix_seqs es) →
    AreBelow (λ (x : PrefixEntry). x.seq) before es
    → Reads (map (prefix_entry_line name) es) (with_lists r (done ++ list_with name before ∷ []))
    (with_lists r (done ++ list_with name (before ++ map bare_prefix_entry es) ∷ []))
entries_stage r name done before [] named new are up below rs now same = let whole =
    reads_none (with_lists r (done ++ list_with name before ∷ [])) rs now same in
    (whole.0, whole.1, whole.2 ∙ ap (λ (xs : List PrefixEntry). with_lists r (done ++ list_with name xs ∷ [])) (sym (append-nil before)))
entries_stage r name done before (e ∷ es) named new are up below rs now same =
    let grows = before ++ bare_prefix_entry e ∷ [] in
    let first = entry_top r name e (done ++ list_with name before ∷ []) (done ++ list_with name grows ∷ []) named are.0
    (no_last_entry name e.seq done before new below.0) (extend_list name e done before new below.0) in
    let rest = entries_stage r name done grows es named new are.1 up.1 (below_more (λ (x : PrefixEntry). x.seq) before (bare_prefix_entry e) es below.1 up.0) in
    let whole = reads_then (prefix_entry_line name e ∷ []) (map (prefix_entry_line name) es) _ _ _ first rest rs now same in (
      whole.0,
      whole.1,
      whole.2 ∙ ap (λ (xs : List PrefixEntry). with_lists r (done ++ list_with name xs ∷ []))
          (grown before (bare_prefix_entry e) (map bare_prefix_entry es)),
    )

list_case : (r : Rest) (name : List ℕ) (done : List PrefixList) (entries : List PrefixEntry) → IsListName name → list_any (is_prefix_list name) done ≡ false →
    1 ≤ length entries → AllByRecursion IsWellFormedPrefixEntry entries → IsAscending (prefix_seqs entries)
    → Reads (map (prefix_entry_line name) entries) (with_lists r done) (with_lists r (done ++ list_with name (map bare_prefix_entry entries) ∷ []))
list_case r name done [] named new some are up = absurd (omega arith)
list_case r name done (e ∷ es) named new some are up =
    reads_then (prefix_entry_line name e ∷ []) (map (prefix_entry_line name) es) _ _ _
    (entry_top r name e done (done ++ list_with name (bare_prefix_entry e ∷ []) ∷ []) named are.0 (no_entry name e.seq done new) (begin_list name e done new))
    (entries_stage r name done (bare_prefix_entry e ∷ []) es named new are.1 up.1
    (below_more (λ (x : PrefixEntry). x.seq) [] (bare_prefix_entry e) es (below_none (λ (x : PrefixEntry). x.seq) es) up.0))

lists_stage : (r : Rest) (done ls : List PrefixList) → AllByRecursion IsWellFormedPrefixList ls → IsDistinct same_prefix_list ls →
    AreNew same_prefix_list done ls
    → Reads (flat_map (λ (l : PrefixList). map (prefix_entry_line l.name) l.entries) ls) (with_lists r done) (with_lists r (done ++ map bare_prefix_list ls))
unfolding IsDistinct
lists_stage r done [] are once new rs now same = let whole = reads_none (with_lists r done) rs now same in
    (whole.0, whole.1, whole.2 ∙ ap (with_lists r) (sym (append-nil done)))
lists_stage r done (l ∷ ls) are once new rs now same =
    let first = list_case r l.name done l.entries are.0.name new.0 are.0.some are.0.entries are.0.ascending in
    let rest = lists_stage r (done ++ bare_prefix_list l ∷ []) ls are.1 once.1 (new_to_more same_prefix_list done (bare_prefix_list l) ls new.1 once.0) in
    let whole = reads_then (map (prefix_entry_line l.name) l.entries) (flat_map (λ (m : PrefixList). map (prefix_entry_line m.name) m.entries) ls) _ _ _ first
    rest rs now same in
    (whole.0, whole.1, whole.2 ∙ ap (with_lists r) (grown done (bare_prefix_list l) (map bare_prefix_list ls)))

-- a closing line after lines, if there are any
pub reads_closed : (ls : List TextLine) (d out : Draft) → Reads ls d out → Reads (closed_lines ls) d out
reads_closed [] d out reads = reads
reads_closed (l ∷ ls) d out reads = reads_then (l ∷ ls) (closing ∷ []) d out out reads (reads_skipped (closing ∷ []) out (refl, tt))

pub prefix_lists_back : (name : Option Named) (interfaces : List Interface) (bgp : Option BgpProcess) (ospf : Option OspfProcess) (ls : List PrefixList) →
    AllByRecursion IsWellFormedPrefixList ls → IsDistinct same_prefix_list ls
    → Reads (prefix_list_lines ls) (draft_of name interfaces bgp ospf [] [] []) (draft_of name interfaces bgp ospf (map bare_prefix_list ls) [] [])
prefix_lists_back name interfaces bgp ospf ls are once =
    reads_closed (flat_map (λ (l : PrefixList). map (prefix_entry_line l.name) l.entries) ls) _ _
    (lists_stage (record { name = name; interfaces = interfaces; bgp = bgp; ospf = ospf }) [] ls are once (new_to_none same_prefix_list ls))

-- ---- community lists

record More : Type 0 where
  name : Option Named
  interfaces : List Interface
  bgp : Option BgpProcess
  ospf : Option OspfProcess
  prefix_lists : List PrefixList

abbrev with_communities : More → List CommunityList → Draft
with_communities r lists = draft_of r.name r.interfaces r.bgp r.ospf r.prefix_lists lists []

abbrev communities_with : List ℕ → List CommunityLine → CommunityList
communities_with name lines = record { name = name; lines = lines }

community_top : (r : More) (name : List ℕ) (c : CommunityLine) (before after : List CommunityList) → IsListName name → IsWellFormedCommunityLine c →
    with_community_line name (bare_community_line c) before ≡ after
    → Reads (community_list_line name c ∷ []) (with_communities r before) (with_communities r after)
unfolding community_list_line take_policy is_policy_line
community_top r name c before after named is made =
    reads_line (community_list_line name c) (with_communities r before) (with_communities r after) refl
    (policy_top (community_list_line name c) (item.CommunityLine name (bare_community_line c)) (with_communities r before) (with_communities r after) refl refl
    (community_item name c named is) (rw made refl))
    (closed_draft r.name r.interfaces r.bgp r.ospf r.prefix_lists after [])

lines_stage : (r : More) (name : List ℕ) (done : List CommunityList) (before cs : List CommunityLine) → IsListName name →
    list_any (is_community_list name) done ≡ false → AllByRecursion IsWellFormedCommunityLine cs
    → Reads (map (community_list_line name) cs) (with_communities r (done ++ communities_with name before ∷ []))
    (with_communities r (done ++ communities_with name (before ++ map bare_community_line cs) ∷ []))
lines_stage r name done before [] named new are rs now same = let whole =
    reads_none (with_communities r (done ++ communities_with name before ∷ [])) rs now same in
    (whole.0, whole.1, whole.2 ∙ ap (λ (xs : List CommunityLine). with_communities r (done ++ communities_with name xs ∷ [])) (sym (append-nil before)))
lines_stage r name done before (c ∷ cs) named new are rs now same =
    let grows = before ++ bare_community_line c ∷ [] in
    let made = change_last (is_community_list name) (put_community_line (bare_community_line c)) (record { name = name; lines = bare_community_line c ∷ [] })
    done (communities_with name before) new (same_bytes name) in
    let first = community_top r name c (done ++ communities_with name before ∷ []) (done ++ communities_with name grows ∷ []) named are.0 made in
    let rest = lines_stage r name done grows cs named new are.1 in
    let whole = reads_then (community_list_line name c ∷ []) (map (community_list_line name) cs) _ _ _ first rest rs now same in (
      whole.0,
      whole.1,
      whole.2 ∙ ap (λ (xs : List CommunityLine). with_communities r (done ++ communities_with name xs ∷ []))
          (grown before (bare_community_line c) (map bare_community_line cs)),
    )

community_case : (r : More) (name : List ℕ) (done : List CommunityList) (lines : List CommunityLine) → IsListName name →
    list_any (is_community_list name) done ≡ false → 1 ≤ length lines → AllByRecursion IsWellFormedCommunityLine lines
    → Reads (map (community_list_line name) lines) (with_communities r done)
    (with_communities r (done ++ communities_with name (map bare_community_line lines) ∷ []))
community_case r name done [] named new some are = absurd (omega arith)
community_case r name done (c ∷ cs) named new some are =
    reads_then (community_list_line name c ∷ []) (map (community_list_line name) cs) _ _ _
    (community_top r name c done (done ++ communities_with name (bare_community_line c ∷ []) ∷ []) named are.0
    (new_last (is_community_list name) (put_community_line (bare_community_line c)) (record { name = name; lines = bare_community_line c ∷ [] }) done new))
    (lines_stage r name done (bare_community_line c ∷ []) cs named new are.1)

communities_stage : (r : More) (done ls : List CommunityList) → AllByRecursion IsWellFormedCommunityList ls → IsDistinct same_community_list ls →
    AreNew same_community_list done ls
    → Reads (flat_map (λ (l : CommunityList). map (community_list_line l.name) l.lines) ls) (with_communities r done)
    (with_communities r (done ++ map bare_community_list ls))
unfolding IsDistinct
communities_stage r done [] are once new rs now same = let whole = reads_none (with_communities r done) rs now same in
    (whole.0, whole.1, whole.2 ∙ ap (with_communities r) (sym (append-nil done)))
communities_stage r done (l ∷ ls) are once new rs now same =
    let first = community_case r l.name done l.lines are.0.name new.0 are.0.some are.0.lines in
    let rest = communities_stage r (done ++ bare_community_list l ∷ []) ls are.1 once.1
    (new_to_more same_community_list done (bare_community_list l) ls new.1 once.0) in
    let whole = reads_then (map (community_list_line l.name) l.lines) (flat_map (λ (m : CommunityList). map (community_list_line m.name) m.lines) ls) _ _ _
    first rest rs now same in
    (whole.0, whole.1, whole.2 ∙ ap (with_communities r) (grown done (bare_community_list l) (map bare_community_list ls)))

pub community_lists_back : (name : Option Named) (interfaces : List Interface) (bgp : Option BgpProcess) (ospf : Option OspfProcess) (ps : List PrefixList)
    (ls : List CommunityList) → AllByRecursion IsWellFormedCommunityList ls → IsDistinct same_community_list ls
    → Reads (community_list_lines ls) (draft_of name interfaces bgp ospf ps [] []) (draft_of name interfaces bgp ospf ps (map bare_community_list ls) [])
community_lists_back name interfaces bgp ospf ps ls are once =
    reads_closed (flat_map (λ (l : CommunityList). map (community_list_line l.name) l.lines) ls) _ _
    (communities_stage (record { name = name; interfaces = interfaces; bgp = bgp; ospf = ospf; prefix_lists = ps }) [] ls are once
    (new_to_none same_community_list ls))
