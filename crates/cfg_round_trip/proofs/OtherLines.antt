-- Printed lines that end no router and name no member.
use Rattle.std.proofs.Common.{◌≡◌, ℕ, Bool, true, false, List, [], ◌∷◌, ◌++◌, map, flat_map, refl, codes, Option, Some, None}
use Rattle.std.specs.Prelude.{bytes_eq}
use Rattle.std.specs.List.{AllByRecursion}
use Rattle.std.specs.Fmt.{decimal}
use Rattle.cfg_ast.specs.meaning.Addresses.{Address}
use Rattle.cfg_ast.specs.text.TextLines.{TextLine}
use Rattle.cfg_ast.specs.declared.network.Named.{Named}
use Rattle.cfg_ast.specs.declared.interface.Interface.{Interface}
use Rattle.cfg_ast.specs.declared.bgp.Base.{Base}
use Rattle.cfg_ast.specs.declared.bgp.BgpProcess.{BgpProcess}
use Rattle.cfg_ast.specs.declared.bgp.NetLine.{NetLine}
use Rattle.cfg_ast.specs.declared.bgp.Neighbor.{Neighbor}
use Rattle.cfg_ast.specs.declared.ospf.OspfProcess.{OspfProcess}
use Rattle.cfg_ast.specs.declared.ospf.AreaLine.{AreaLine}
use Rattle.cfg_ast.specs.declared.policy.PrefixList.{PrefixList}
use Rattle.cfg_ast.specs.declared.policy.PrefixEntry.{PrefixEntry}
use Rattle.cfg_ast.specs.declared.policy.CommunityList.{CommunityList}
use Rattle.cfg_ast.specs.declared.policy.CommunityLine.{CommunityLine}
use Rattle.cfg_ast.specs.declared.policy.NameLine.{NameLine}
use Rattle.cfg_ast.specs.declared.policy.Prepend.{Prepend}
use Rattle.cfg_ast.specs.declared.policy.RouteMap.{RouteMap}
use Rattle.cfg_ast.specs.declared.policy.MapEntry.{MapEntry}
use Rattle.cfg_ast.specs.declared.policy.Change.{Change}
use Rattle.cfg_ast.specs.declared.policy.Change.TheVariants.{Clear, Replace, Append}
use Rattle.cfg_ast.specs.text.Members.{is_end_line, member_on}
use Rattle.cfg_ast.specs.printing.Printed.{address_text, community_text, act_text, line, inner, closing, line_of_given, line_if, closed, ip_address_line, cost_line, shutdown_line, interface_lines, base_line, network_line, remote_line, peer_shut_line, peer_sends_line, applied_line, neighbor_lines, bgp_lines, passive_default_line, passive_line, not_passive_line, network_area_line, ospf_lines, prefix_entry_line, prefix_list_lines, community_list_line, community_list_lines, map_head_line, match_prefixes_line, match_comms_line, lp_line, change_line, delete_line, prepend_line, map_entry_lines, route_map_lines, lines_of_some}
use Rattle.cfg_round_trip.proofs.LineBytes.{each_append}

pub record IsOther (l : TextLine) : Type 0 where
  pub ends_none : is_end_line l ≡ false
  pub names_none : member_on l.words ≡ None

abbrev pub AreOthers : List TextLine → Type 0
AreOthers ls = AllByRecursion IsOther ls

no_mark : (w : List ℕ) (ws : List (List ℕ)) → bytes_eq w (codes "!") ≡ false → member_on (w ∷ ws) ≡ None
unfolding member_on
no_mark w [] e = refl
no_mark w (v ∷ []) e = refl
no_mark w (v ∷ u ∷ []) e = rw e refl
no_mark w (v ∷ u ∷ t ∷ ws) e = refl

-- a line of a stanza
inner_other : (w : List ℕ) (ws : List (List ℕ)) → bytes_eq w (codes "!") ≡ false → IsOther (inner (w ∷ ws))
inner_other w ws e = record { ends_none = refl; names_none = no_mark w ws e }

-- a top line of two words and more
pub top_other : (w v : List ℕ) (ws : List (List ℕ)) → bytes_eq w (codes "!") ≡ false → IsOther (line 0 (w ∷ v ∷ ws))
top_other w v ws e = record { ends_none = refl; names_none = no_mark w (v ∷ ws) e }

pub closing_other : IsOther closing
unfolding member_on
closing_other = record { ends_none = refl; names_none = refl }

-- ---- lists of lines

all_map : {X : Type 0} (f : X → TextLine) → ((x : X) → IsOther (f x)) → (xs : List X) → AreOthers (map f xs)
all_map f one [] = tt
all_map f one (x ∷ xs) = (one x, all_map f one xs)

pub all_flat_map : {X : Type 0} (f : X → List TextLine) → ((x : X) → AreOthers (f x)) → (xs : List X) → AreOthers (flat_map f xs)
all_flat_map f one [] = tt
all_flat_map f one (x ∷ xs) = each_append IsOther (f x) (flat_map f xs) (one x) (all_flat_map f one xs)

some_other : {X : Type 0} (write : X → TextLine) → ((x : X) → IsOther (write x)) → (o : Option X) → AreOthers (line_of_given write o)
some_other write one None = tt
some_other write one (Some x) = (one x, tt)

pub some_others : {X : Type 0} (write : X → List TextLine) → ((x : X) → AreOthers (write x)) → (o : Option X) → AreOthers (lines_of_some write o)
some_others write one None = tt
some_others write one (Some x) = one x

chosen_other : (b : Bool) (l : TextLine) → IsOther l → AreOthers (line_if b l)
chosen_other true l is = (is, tt)
chosen_other false l is = tt

closed_others : (ls : List TextLine) → AreOthers ls → AreOthers (closed ls)
closed_others [] each = tt
closed_others (l ∷ ls) each = each_append IsOther (l ∷ ls) (closing ∷ []) each (closing_other, tt)

-- lines behind others
more : (xs ys : List TextLine) → AreOthers xs → AreOthers ys → AreOthers (xs ++ ys)
more xs ys first second = each_append IsOther xs ys first second

last : AreOthers (closing ∷ [])
last = (closing_other, tt)

-- ---- interfaces

address_other : (a : Address) → IsOther (ip_address_line a)
unfolding ip_address_line
address_other a = inner_other (codes "ip") (codes "address" ∷ _ ∷ _ ∷ []) refl

cost_other : (cost : ℕ) → IsOther (cost_line cost)
unfolding cost_line
cost_other cost = inner_other (codes "ip") (codes "ospf" ∷ codes "cost" ∷ decimal cost ∷ []) refl

pub interface_others : (i : Interface) → AreOthers (interface_lines i)
unfolding interface_lines
interface_others i =
    let a = line_of_given ip_address_line i.address in
    let b = line_of_given cost_line i.cost in
    let c = line_if i.shut shutdown_line in
    let two = more a b (some_other ip_address_line address_other i.address) (some_other cost_line cost_other i.cost) in
    let three = more (a ++ b) c two (chosen_other i.shut shutdown_line (inner_other (codes "shutdown") [] refl)) in
    (top_other (codes "interface") i.name [] refl, more (a ++ b ++ c) (closing ∷ []) three last)

-- ---- BGP

base_other : (base : Base) → IsOther (base_line base)
unfolding base_line
base_other base = inner_other (codes "bgp") (codes "default" ∷ codes "local-preference" ∷ decimal base.value ∷ []) refl

network_other : (n : NetLine) → IsOther (network_line n)
unfolding network_line
network_other n = inner_other (codes "network") (address_text n.prefix.addr ∷ codes "mask" ∷ _ ∷ []) refl

remote_other : (addr remote : ℕ) → IsOther (remote_line addr remote)
unfolding remote_line
remote_other addr remote = inner_other (codes "neighbor") (address_text addr ∷ codes "remote-as" ∷ decimal remote ∷ []) refl

shut_other : (addr : ℕ) → IsOther (peer_shut_line addr)
unfolding peer_shut_line
shut_other addr = inner_other (codes "neighbor") (address_text addr ∷ codes "shutdown" ∷ []) refl

sends_other : (addr : ℕ) → IsOther (peer_sends_line addr)
unfolding peer_sends_line
sends_other addr = inner_other (codes "neighbor") (address_text addr ∷ codes "send-community" ∷ []) refl

applied_other : (addr : ℕ) (what way : List ℕ) (named : Named) → IsOther (applied_line addr what way named)
unfolding applied_line
applied_other addr what way named = inner_other (codes "neighbor") (address_text addr ∷ what ∷ named.name ∷ way ∷ []) refl

neighbor_others : (p : Neighbor) → AreOthers (neighbor_lines p)
unfolding neighbor_lines
neighbor_others p =
    let a = line_if p.shut (peer_shut_line p.addr) in
    let b = line_if p.sends (peer_sends_line p.addr) in
    let c = line_of_given (applied_line p.addr (codes "prefix-list") (codes "in")) p.list_in in
    let d = line_of_given (applied_line p.addr (codes "prefix-list") (codes "out")) p.list_out in
    let e = line_of_given (applied_line p.addr (codes "route-map") (codes "in")) p.map_in in
    let f = line_of_given (applied_line p.addr (codes "route-map") (codes "out")) p.map_out in
    let two = more a b (chosen_other p.shut (peer_shut_line p.addr) (shut_other p.addr)) (chosen_other p.sends (peer_sends_line p.addr) (sends_other p.addr)) in
    let three = more (a ++ b) c two (some_other (applied_line p.addr (codes "prefix-list") (codes "in"))
    (applied_other p.addr (codes "prefix-list") (codes "in")) p.list_in) in
    let four = more (a ++ b ++ c) d three (some_other (applied_line p.addr (codes "prefix-list") (codes "out"))
    (applied_other p.addr (codes "prefix-list") (codes "out")) p.list_out) in
    let five = more (a ++ b ++ c ++ d) e four (some_other (applied_line p.addr (codes "route-map") (codes "in"))
    (applied_other p.addr (codes "route-map") (codes "in")) p.map_in) in (
      remote_other p.addr p.remote,
      more (a ++ b ++ c ++ d ++ e) f five
          (some_other (applied_line p.addr (codes "route-map") (codes "out")) (applied_other p.addr (codes "route-map") (codes "out")) p.map_out),
    )

pub bgp_others : (b : BgpProcess) → AreOthers (bgp_lines b)
unfolding bgp_lines
bgp_others b =
    let x = line_of_given base_line b.base in
    let y = map network_line b.networks in
    let z = flat_map neighbor_lines b.neighbors in
    let two = more x y (some_other base_line base_other b.base) (all_map network_line network_other b.networks) in (
      top_other (codes "router") (codes "bgp") (decimal b.number ∷ []) refl,
      more (x ++ y ++ z) (closing ∷ []) (more (x ++ y) z two (all_flat_map neighbor_lines neighbor_others b.neighbors)) last,
    )

-- ---- OSPF

passive_other : (name : List ℕ) → IsOther (passive_line name)
passive_other name = inner_other (codes "passive-interface") (name ∷ []) refl

not_passive_other : (name : List ℕ) → IsOther (not_passive_line name)
not_passive_other name = inner_other (codes "no") (codes "passive-interface" ∷ name ∷ []) refl

area_other : (a : AreaLine) → IsOther (network_area_line a)
unfolding network_area_line
area_other a = inner_other (codes "network") (address_text a.addr ∷ address_text a.wild ∷ codes "area" ∷ decimal a.area ∷ []) refl

pub ospf_others : (o : OspfProcess) → AreOthers (ospf_lines o)
unfolding ospf_lines
ospf_others o =
    let w = line_if o.passive_default passive_default_line in
    let x = map passive_line o.passive in
    let y = map not_passive_line o.not_passive in
    let z = map network_area_line o.areas in
    let two = more w x (chosen_other o.passive_default passive_default_line (inner_other (codes "passive-interface") (codes "default" ∷ []) refl))
    (all_map passive_line passive_other o.passive) in
    let three = more (w ++ x) y two (all_map not_passive_line not_passive_other o.not_passive) in (
      top_other (codes "router") (codes "ospf") (decimal o.number ∷ []) refl,
      more (w ++ x ++ y ++ z) (closing ∷ []) (more (w ++ x ++ y) z three (all_map network_area_line area_other o.areas)) last,
    )

-- ---- lists

prefix_entry_other : (name : List ℕ) (e : PrefixEntry) → IsOther (prefix_entry_line name e)
unfolding prefix_entry_line
prefix_entry_other name e = top_other (codes "ip") (codes "prefix-list") _ refl

pub prefix_list_others : (lists : List PrefixList) → AreOthers (prefix_list_lines lists)
prefix_list_others lists =
    closed_others (flat_map (λ (l : PrefixList). map (prefix_entry_line l.name) l.entries) lists)
    (all_flat_map (λ (l : PrefixList). map (prefix_entry_line l.name) l.entries)
    (λ (l : PrefixList). all_map (prefix_entry_line l.name) (prefix_entry_other l.name) l.entries) lists)

community_line_other : (name : List ℕ) (c : CommunityLine) → IsOther (community_list_line name c)
unfolding community_list_line
community_line_other name c = top_other (codes "ip") (codes "community-list") _ refl

pub community_list_others : (lists : List CommunityList) → AreOthers (community_list_lines lists)
community_list_others lists =
    closed_others (flat_map (λ (l : CommunityList). map (community_list_line l.name) l.lines) lists)
    (all_flat_map (λ (l : CommunityList). map (community_list_line l.name) l.lines)
    (λ (l : CommunityList). all_map (community_list_line l.name) (community_line_other l.name) l.lines) lists)

-- ---- route maps

head_other : (name : List ℕ) (e : MapEntry) → IsOther (map_head_line name e)
unfolding map_head_line
head_other name e = top_other (codes "route-map") name (act_text e.permit ∷ decimal e.seq ∷ []) refl

match_prefixes_other : (l : NameLine) → IsOther (match_prefixes_line l)
unfolding match_prefixes_line
match_prefixes_other l = inner_other (codes "match") _ refl

match_comms_other : (exact : Bool) (l : NameLine) → IsOther (match_comms_line exact l)
unfolding match_comms_line
match_comms_other exact l = inner_other (codes "match") _ refl

lp_other : (lp : ℕ) → IsOther (lp_line lp)
unfolding lp_line
lp_other lp = inner_other (codes "set") (codes "local-preference" ∷ decimal lp ∷ []) refl

change_other : (change : Change) → IsOther (change_line change)
unfolding change_line
change_other Clear = inner_other (codes "set") (codes "community" ∷ codes "none" ∷ []) refl
change_other (Replace comms) = inner_other (codes "set") (codes "community" ∷ map community_text comms) refl
change_other (Append comms) = inner_other (codes "set") (codes "community" ∷ (map community_text comms ++ codes "additive" ∷ [])) refl

delete_other : (list : Named) → IsOther (delete_line list)
unfolding delete_line
delete_other list = inner_other (codes "set") (codes "comm-list" ∷ list.name ∷ codes "delete" ∷ []) refl

prepend_other : (p : Prepend) → IsOther (prepend_line p)
unfolding prepend_line
prepend_other p = inner_other (codes "set") (codes "as-path" ∷ codes "prepend" ∷ map decimal p.numbers) refl

entry_others : (name : List ℕ) (e : MapEntry) → AreOthers (map_entry_lines name e)
unfolding map_entry_lines
entry_others name e =
    let a = line_of_given match_prefixes_line e.prefixes in
    let b = line_of_given (match_comms_line e.exact) e.comms in
    let c = line_of_given lp_line e.lp in
    let d = line_of_given change_line e.change in
    let f = line_of_given delete_line e.delete in
    let g = line_of_given prepend_line e.prepend in
    let two = more a b (some_other match_prefixes_line match_prefixes_other e.prefixes)
    (some_other (match_comms_line e.exact) (match_comms_other e.exact) e.comms) in
    let three = more (a ++ b) c two (some_other lp_line lp_other e.lp) in
    let four = more (a ++ b ++ c) d three (some_other change_line change_other e.change) in
    let five = more (a ++ b ++ c ++ d) f four (some_other delete_line delete_other e.delete) in
    let six = more (a ++ b ++ c ++ d ++ f) g five (some_other prepend_line prepend_other e.prepend) in
    (head_other name e, more (a ++ b ++ c ++ d ++ f ++ g) (closing ∷ []) six last)

pub route_map_others : (m : RouteMap) → AreOthers (route_map_lines m)
route_map_others m = all_flat_map (map_entry_lines m.name) (entry_others m.name) m.entries
