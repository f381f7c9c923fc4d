-- The printed lines of a well-formed network are short. For the match lines of its route maps this is a
-- premise.
use Rattle.std.proofs.Common.{◌≡◌, ℕ, ◌+◌, ◌*◌, ◌≤◌, Bool, true, false, List, [], ◌∷◌, ◌++◌, length, map, Option, Some, None, arith}
use Rattle.std.specs.Prelude.{IfSome, codes, flat_map, is_some, if◌then◌else◌}
use Rattle.std.specs.Fmt.{decimal}
use Rattle.std.specs.List.{AllByRecursion}
use Rattle.std.proofs.lemmas.Fmt.{length-decimal-le}
use Rattle.cfg_ast.specs.meaning.Addresses.{Address}
use Rattle.cfg_ast.specs.text.TextLines.{TextLine}
use Rattle.cfg_ast.specs.text.Words.{mask_of, number_between}
use Rattle.cfg_ast.specs.declared.network.Network.{Network}
use Rattle.cfg_ast.specs.declared.network.Router.{Router}
use Rattle.cfg_ast.specs.declared.network.Notes.{Notes}
use Rattle.cfg_ast.specs.declared.network.Named.{Named}
use Rattle.cfg_ast.specs.declared.interface.Interface.{Interface}
use Rattle.cfg_ast.specs.declared.bgp.Base.{Base}
use Rattle.cfg_ast.specs.declared.bgp.BgpProcess.{BgpProcess}
use Rattle.cfg_ast.specs.declared.bgp.NetLine.{NetLine}
use Rattle.cfg_ast.specs.declared.bgp.Neighbor.{Neighbor}
use Rattle.cfg_ast.specs.declared.ospf.OspfProcess.{OspfProcess}
use Rattle.cfg_ast.specs.declared.ospf.AreaLine.{AreaLine}
use Rattle.cfg_ast.specs.declared.policy.PrefixList.{PrefixList}
use Rattle.cfg_ast.specs.declared.policy.PrefixEntry.{PrefixEntry}
use Rattle.cfg_ast.specs.declared.policy.CommunityList.{CommunityList}
use Rattle.cfg_ast.specs.declared.policy.CommunityLine.{CommunityLine}
use Rattle.cfg_ast.specs.declared.policy.Prepend.{Prepend}
use Rattle.cfg_ast.specs.declared.policy.RouteMap.{RouteMap}
use Rattle.cfg_ast.specs.declared.policy.MapEntry.{MapEntry}
use Rattle.cfg_ast.specs.declared.policy.Change.{Change}
use Rattle.cfg_ast.specs.declared.policy.Change.TheVariants.{Clear, Replace, Append}
use Rattle.cfg_ast.specs.printing.Printed.{address_text, community_text, prefix_text, act_text, line, closing, line_of_given, line_if, closed, ip_address_line, cost_line, shutdown_line, interface_lines, base_line, network_line, remote_line, peer_shut_line, peer_sends_line, applied_line, neighbor_lines, bgp_lines, passive_default_line, passive_line, not_passive_line, network_area_line, ospf_lines, bound_words, prefix_entry_line, prefix_list_lines, community_list_name, community_list_line, community_list_lines, map_head_line, match_prefixes_line, match_comms_line, lp_line, change_line, delete_line, prepend_line, map_entry_lines, route_map_lines, lines_of_some, member_line, router_lines, routers_lines, printed_lines}
use Rattle.cfg_ast.specs.printing.WellFormed.{IsBetween, IsNumber, IsListName, IsInterfaceName, IsCommunitySet, AreBounds, IsWellFormedBase, IsWellFormedAddress, IsWellFormedInterface, IsWellFormedNetLine, IsWellFormedNamed, IsWellFormedNeighbor, IsWellFormedBgp, IsWellFormedArea, IsWellFormedOspf, IsWellFormedPrefixEntry, IsWellFormedPrefixList, IsWellFormedCommunityLine, IsWellFormedCommunityList, IsWellFormedChange, IsWellFormedPrepend, IsWellFormedMapEntry, IsWellFormedRouteMap, IsWellFormedRouter, IsWellFormed}
use Rattle.given_laws.proofs.Each.{all_both}
use Rattle.cfg_round_trip.specs.Notes.{IsRouterName, AreNotes}
use Rattle.cfg_round_trip.proofs.LineBytes.{each_append}
use Rattle.cfg_round_trip.proofs.PrintedNetwork.{each_map, each_flat_map}
use Rattle.cfg_round_trip.specs.ShortMaps.{IsShortLine, IsShortEntry, IsShortMap, HasShortMaps}
use Rattle.cfg_round_trip.proofs.ShortWords.{weight, light_line, number_short, address_short, mask_short, prefix_short, community_short, act_short, list_name_short, router_name_short, interface_name_short}

-- ---- lines

abbrev AreShort : List TextLine → Type 0
AreShort ls = AllByRecursion IsShortLine ls

closing_short : IsShortLine closing
closing_short = omega arith

some_line : {X : Type 0} (P : X → Type 0) (write : X → TextLine) → ((x : X) → P x → IsShortLine (write x)) → (o : Option X) → IfSome o P →
    AreShort (line_of_given write o)
some_line P write one None is = tt
some_line P write one (Some x) is = (one x is, tt)

some_lines : {X : Type 0} (P : X → Type 0) (write : X → List TextLine) → ((x : X) → P x → AreShort (write x)) → (o : Option X) → IfSome o P →
    AreShort (lines_of_some write o)
some_lines P write one None is = tt
some_lines P write one (Some x) is = one x is

line_when : (b : Bool) (l : TextLine) → IsShortLine l → AreShort (line_if b l)
line_when true l is = (is, tt)
line_when false l is = tt

closed_short : (ls : List TextLine) → AreShort ls → AreShort (closed ls)
closed_short [] are = tt
closed_short (l ∷ ls) are = each_append IsShortLine (l ∷ ls) (closing ∷ []) are (closing_short, tt)

-- several pieces, the last a closing line
pieces : (a b : List TextLine) → AreShort a → AreShort b → AreShort (a ++ b)
pieces a b first second = each_append IsShortLine a b first second

-- ---- interfaces

address_line_short : (a : Address) → IsWellFormedAddress a → IsShortLine (ip_address_line a)
unfolding ip_address_line
address_line_short a is = light_line 1 (codes "ip" ∷ codes "address" ∷ address_text a.addr ∷ address_text (mask_of a.len) ∷ [])
    (omega (arith, address_short a.addr is.addr, mask_short a.len))

cost_line_short : (n : ℕ) → IsBetween 1 65535 n → IsShortLine (cost_line n)
unfolding cost_line
cost_line_short n is = light_line 1 (codes "ip" ∷ codes "ospf" ∷ codes "cost" ∷ decimal n ∷ []) (let high = is.1 in omega (arith, number_short n (omega arith)))

interface_short : (i : Interface) → IsWellFormedInterface i → AreShort (interface_lines i)
unfolding interface_lines
interface_short i is =
    let a = line_of_given ip_address_line i.address in
    let b = line_of_given cost_line i.cost in
    let c = line_if i.shut shutdown_line in (
      light_line 0 (codes "interface" ∷ i.name ∷ []) (omega (arith, interface_name_short i.name is.name)),
      pieces (a ++ b ++ c) (closing ∷ []) (pieces (a ++ b) c
          (pieces a b (some_line IsWellFormedAddress ip_address_line address_line_short i.address is.address)
          (some_line (IsBetween 1 65535) cost_line cost_line_short i.cost is.cost))
          (line_when i.shut shutdown_line (light_line 1 (codes "shutdown" ∷ []) (omega arith)))) (closing_short, tt),
    )

-- ---- BGP

base_line_short : (base : Base) → IsWellFormedBase base → IsShortLine (base_line base)
unfolding base_line
base_line_short base is = light_line 1 (codes "bgp" ∷ codes "default" ∷ codes "local-preference" ∷ decimal base.value ∷ [])
    (omega (arith, number_short base.value is))

network_line_short : (net : NetLine) → IsWellFormedNetLine net → IsShortLine (network_line net)
unfolding network_line
network_line_short net is =
    light_line 1 (codes "network" ∷ address_text net.prefix.addr ∷ codes "mask" ∷ address_text (mask_of net.prefix.len) ∷ [])
    (omega (arith, address_short net.prefix.addr is.prefix.addr, mask_short net.prefix.len))

remote_line_short : (addr remote : ℕ) → IsNumber addr → IsNumber remote → IsShortLine (remote_line addr remote)
unfolding remote_line
remote_line_short addr remote is number = light_line 1 (codes "neighbor" ∷ address_text addr ∷ codes "remote-as" ∷ decimal remote ∷ [])
    (omega (arith, address_short addr is, number_short remote number))

peer_shut_short : (addr : ℕ) → IsNumber addr → IsShortLine (peer_shut_line addr)
unfolding peer_shut_line
peer_shut_short addr is = light_line 1 (codes "neighbor" ∷ address_text addr ∷ codes "shutdown" ∷ []) (omega (arith, address_short addr is))

peer_sends_short : (addr : ℕ) → IsNumber addr → IsShortLine (peer_sends_line addr)
unfolding peer_sends_line
peer_sends_short addr is = light_line 1 (codes "neighbor" ∷ address_text addr ∷ codes "send-community" ∷ []) (omega (arith, address_short addr is))

applied_short : (addr : ℕ) (what way : List ℕ) → IsNumber addr → length what ≤ 20 → length way ≤ 20 → (named : Named) → IsWellFormedNamed named →
    IsShortLine (applied_line addr what way named)
unfolding applied_line
applied_short addr what way is first last named name = light_line 1 (codes "neighbor" ∷ address_text addr ∷ what ∷ named.name ∷ way ∷ [])
    (omega (arith, address_short addr is, list_name_short named.name name))

neighbor_short : (p : Neighbor) → IsWellFormedNeighbor p → AreShort (neighbor_lines p)
unfolding neighbor_lines
neighbor_short p is =
    let high = is.remote.1 in
    let one = remote_line p.addr p.remote ∷ [] in
    let two = line_if p.shut (peer_shut_line p.addr) in
    let three = line_if p.sends (peer_sends_line p.addr) in
    let four = line_of_given (applied_line p.addr (codes "prefix-list") (codes "in")) p.list_in in
    let five = line_of_given (applied_line p.addr (codes "prefix-list") (codes "out")) p.list_out in
    let six = line_of_given (applied_line p.addr (codes "route-map") (codes "in")) p.map_in in
    let seven = line_of_given (applied_line p.addr (codes "route-map") (codes "out")) p.map_out in
    pieces (one ++ two ++ three ++ four ++ five ++ six) seven
    (pieces (one ++ two ++ three ++ four ++ five) six
    (pieces (one ++ two ++ three ++ four) five
    (pieces (one ++ two ++ three) four
    (pieces (one ++ two) three
    (pieces one two (remote_line_short p.addr p.remote is.addr high, tt) (line_when p.shut (peer_shut_line p.addr) (peer_shut_short p.addr is.addr)))
    (line_when p.sends (peer_sends_line p.addr) (peer_sends_short p.addr is.addr)))
    (some_line IsWellFormedNamed (applied_line p.addr (codes "prefix-list") (codes "in"))
    (applied_short p.addr (codes "prefix-list") (codes "in") is.addr (omega arith) (omega arith)) p.list_in is.list_in))
    (some_line IsWellFormedNamed (applied_line p.addr (codes "prefix-list") (codes "out"))
    (applied_short p.addr (codes "prefix-list") (codes "out") is.addr (omega arith) (omega arith)) p.list_out is.list_out))
    (some_line IsWellFormedNamed (applied_line p.addr (codes "route-map") (codes "in"))
    (applied_short p.addr (codes "route-map") (codes "in") is.addr (omega arith) (omega arith)) p.map_in is.map_in))
    (some_line IsWellFormedNamed (applied_line p.addr (codes "route-map") (codes "out"))
    (applied_short p.addr (codes "route-map") (codes "out") is.addr (omega arith) (omega arith)) p.map_out is.map_out)

bgp_short : (b : BgpProcess) → IsWellFormedBgp b → AreShort (bgp_lines b)
unfolding bgp_lines
bgp_short b is =
    let high = is.number.1 in
    let one = line_of_given base_line b.base in
    let two = map network_line b.networks in
    let three = flat_map neighbor_lines b.neighbors in (
      light_line 0 (codes "router" ∷ codes "bgp" ∷ decimal b.number ∷ []) (omega (arith, number_short b.number high)),
      pieces (one ++ two ++ three) (closing ∷ [])
          (pieces (one ++ two) three (pieces one two (some_line IsWellFormedBase base_line base_line_short b.base is.base)
          (each_map IsWellFormedNetLine IsShortLine network_line network_line_short b.networks is.networks))
          (each_flat_map IsWellFormedNeighbor IsShortLine neighbor_lines neighbor_short b.neighbors is.neighbors)) (closing_short, tt),
    )

-- ---- OSPF

passive_short : (name : List ℕ) → IsInterfaceName name → IsShortLine (passive_line name)
passive_short name is = light_line 1 (codes "passive-interface" ∷ name ∷ []) (omega (arith, interface_name_short name is))

not_passive_short : (name : List ℕ) → IsInterfaceName name → IsShortLine (not_passive_line name)
not_passive_short name is = light_line 1 (codes "no" ∷ codes "passive-interface" ∷ name ∷ []) (omega (arith, interface_name_short name is))

area_short : (a : AreaLine) → IsWellFormedArea a → IsShortLine (network_area_line a)
unfolding network_area_line
area_short a is = light_line 1 (codes "network" ∷ address_text a.addr ∷ address_text a.wild ∷ codes "area" ∷ decimal a.area ∷ [])
    (omega (arith, address_short a.addr is.addr, address_short a.wild is.wild, number_short a.area is.area))

ospf_short : (o : OspfProcess) → IsWellFormedOspf o → AreShort (ospf_lines o)
unfolding ospf_lines
ospf_short o is =
    let high = is.number.1 in
    let one = line_if o.passive_default passive_default_line in
    let two = map passive_line o.passive in
    let three = map not_passive_line o.not_passive in
    let four = map network_area_line o.areas in (
      light_line 0 (codes "router" ∷ codes "ospf" ∷ decimal o.number ∷ []) (omega (arith, number_short o.number (omega arith))),
      pieces (one ++ two ++ three ++ four) (closing ∷ []) (pieces (one ++ two ++ three) four
          (pieces (one ++ two) three (pieces one two (line_when o.passive_default passive_default_line
          (light_line 1 (codes "passive-interface" ∷ codes "default" ∷ []) (omega arith)))
          (each_map IsInterfaceName IsShortLine passive_line passive_short o.passive is.passive))
          (each_map IsInterfaceName IsShortLine not_passive_line not_passive_short o.not_passive is.not_passive))
          (each_map IsWellFormedArea IsShortLine network_area_line area_short o.areas is.areas)) (closing_short, tt),
    )

-- ---- lists

weight_append : (xs ys : List (List ℕ)) → weight (xs ++ ys) ≡ weight xs + weight ys
weight_append [] ys = omega arith
weight_append (x ∷ xs) ys = omega (arith, weight_append xs ys)

bound_weight : (name : List ℕ) (o : Option ℕ) → length name ≤ 2 → IfSome o (λ n. n ≤ 32) → weight (bound_words name o) ≤ 6
unfolding bound_words
bound_weight name None small is = omega arith
bound_weight name (Some n) small is = omega (arith, length-decimal-le 2 n (omega arith) (omega arith) (omega arith))

lower_bound : (len : ℕ) (ge le : Option ℕ) → AreBounds len ge le → IfSome ge (λ n. n ≤ 32)
lower_bound len None None is = tt
lower_bound len None (Some le) is = tt
lower_bound len (Some ge) None is = is.1
lower_bound len (Some ge) (Some le) is = is.0.1

upper_bound : (len : ℕ) (ge le : Option ℕ) → AreBounds len ge le → IfSome le (λ n. n ≤ 32)
upper_bound len None None is = tt
upper_bound len (Some ge) None is = tt
upper_bound len None (Some le) is = is.1
upper_bound len (Some ge) (Some le) is = is.1.1

prefix_entry_short : (name : List ℕ) → IsListName name → (e : PrefixEntry) → IsWellFormedPrefixEntry e → IsShortLine (prefix_entry_line name e)
unfolding prefix_entry_line
prefix_entry_short name named e is =
    let high = is.seq.1 in
    let low = bound_words (codes "ge") e.ge in
    let top = bound_words (codes "le") e.le in
    light_line 0 (codes "ip" ∷ codes "prefix-list" ∷ name ∷ codes "seq" ∷ decimal e.seq ∷ act_text e.permit ∷ prefix_text e.prefix ∷ low ++ top)
    (omega (
      arith,
      list_name_short name named,
      number_short e.seq high,
      act_short e.permit,
      prefix_short e.prefix is.prefix,
      weight_append low top,
      bound_weight (codes "ge") e.ge (omega arith) (lower_bound e.prefix.len e.ge e.le is.bounds),
      bound_weight (codes "le") e.le (omega arith) (upper_bound e.prefix.len e.ge e.le is.bounds),
    ))

prefix_list_short : (l : PrefixList) → IsWellFormedPrefixList l → AreShort (map (prefix_entry_line l.name) l.entries)
prefix_list_short l is = each_map IsWellFormedPrefixEntry IsShortLine (prefix_entry_line l.name) (prefix_entry_short l.name is.name) l.entries is.entries

texts_weight : (comms : List ℕ) → AllByRecursion (IsBetween 1 4294901759) comms → weight (map community_text comms) ≤ 12 * length comms
texts_weight [] all = omega arith
texts_weight (c ∷ comms) all = omega (arith, community_short c all.0, texts_weight comms all.1)

set_weight : (comms : List ℕ) → IsCommunitySet comms → weight (map community_text comms) ≤ 384
set_weight comms is = let few = is.count.1 in omega (arith, texts_weight comms is.each)

name_weight : (name : List ℕ) → length name ≤ 63 → weight (community_list_name name) ≤ 73
name_weight name short = by (is_some (number_between 1 99 name))
  where
    by : (b : Bool) → weight (if b then name ∷ [] else codes "standard" ∷ name ∷ []) ≤ 73
    by true = omega arith
    by false = omega arith

community_line_short : (name : List ℕ) → IsListName name → (c : CommunityLine) → IsWellFormedCommunityLine c → IsShortLine (community_list_line name c)
unfolding community_list_line
community_line_short name named c is =
    let names = community_list_name name in
    let rest = act_text c.permit ∷ map community_text c.comms in
    light_line 0 (codes "ip" ∷ codes "community-list" ∷ names ++ rest)
    (omega (arith, weight_append names rest, name_weight name (list_name_short name named), act_short c.permit, set_weight c.comms is))

community_list_short : (l : CommunityList) → IsWellFormedCommunityList l → AreShort (map (community_list_line l.name) l.lines)
community_list_short l is = each_map IsWellFormedCommunityLine IsShortLine (community_list_line l.name) (community_line_short l.name is.name) l.lines is.lines

-- ---- route maps

map_head_short : (name : List ℕ) (e : MapEntry) → IsListName name → e.seq ≤ 65535 → IsShortLine (map_head_line name e)
unfolding map_head_line
map_head_short name e named short = light_line 0 (codes "route-map" ∷ name ∷ act_text e.permit ∷ decimal e.seq ∷ [])
    (omega (arith, list_name_short name named, act_short e.permit, number_short e.seq (omega arith)))

lp_short : (n : ℕ) → IsNumber n → IsShortLine (lp_line n)
unfolding lp_line
lp_short n is = light_line 1 (codes "set" ∷ codes "local-preference" ∷ decimal n ∷ []) (omega (arith, number_short n is))

change_short : (change : Change) → IsWellFormedChange change → IsShortLine (change_line change)
unfolding change_line
change_short Clear is = light_line 1 (codes "set" ∷ codes "community" ∷ codes "none" ∷ []) (omega arith)
change_short (Replace comms) is = light_line 1 (codes "set" ∷ codes "community" ∷ map community_text comms) (omega (arith, set_weight comms is))
change_short (Append comms) is =
    light_line 1 (codes "set" ∷ codes "community" ∷ map community_text comms ++ codes "additive" ∷ [])
    (omega (arith, set_weight comms is, weight_append (map community_text comms) (codes "additive" ∷ [])))

delete_short : (list : Named) → IsWellFormedNamed list → IsShortLine (delete_line list)
unfolding delete_line
delete_short list is = light_line 1 (codes "set" ∷ codes "comm-list" ∷ list.name ∷ codes "delete" ∷ []) (omega (arith, list_name_short list.name is))

numbers_weight : (ns : List ℕ) → AllByRecursion (IsBetween 1 4294967295) ns → weight (map decimal ns) ≤ 11 * length ns
numbers_weight [] all = omega arith
numbers_weight (n ∷ ns) all = let high = all.0.1 in omega (arith, number_short n high, numbers_weight ns all.1)

prepend_short : (p : Prepend) → IsWellFormedPrepend p → IsShortLine (prepend_line p)
unfolding prepend_line
prepend_short p is = let few = is.count.1 in light_line 1 (codes "set" ∷ codes "as-path" ∷ codes "prepend" ∷ map decimal p.numbers)
    (omega (arith, numbers_weight p.numbers is.each))

-- well formed, and its match lines are short
record IsGoodEntry (e : MapEntry) : Type 0 where
  formed : IsWellFormedMapEntry e
  short : IsShortEntry e

entry_short : (name : List ℕ) → IsListName name → (e : MapEntry) → IsGoodEntry e → AreShort (map_entry_lines name e)
unfolding map_entry_lines
entry_short name named e is =
    let one = line_of_given match_prefixes_line e.prefixes in
    let two = line_of_given (match_comms_line e.exact) e.comms in
    let three = line_of_given lp_line e.lp in
    let four = line_of_given change_line e.change in
    let five = line_of_given delete_line e.delete in
    let six = line_of_given prepend_line e.prepend in (
      map_head_short name e named is.formed.seq,
      pieces (one ++ two ++ three ++ four ++ five ++ six) (closing ∷ [])
          (pieces (one ++ two ++ three ++ four ++ five) six
          (pieces (one ++ two ++ three ++ four) five
          (pieces (one ++ two ++ three) four
          (pieces (one ++ two) three
          (pieces one two (some_line (λ l. IsShortLine (match_prefixes_line l)) match_prefixes_line (λ l short. short) e.prefixes is.short.0)
          (some_line (λ l. IsShortLine (match_comms_line e.exact l)) (match_comms_line e.exact) (λ l short. short) e.comms is.short.1))
          (some_line IsNumber lp_line lp_short e.lp is.formed.lp))
          (some_line IsWellFormedChange change_line change_short e.change is.formed.change))
          (some_line IsWellFormedNamed delete_line delete_short e.delete is.formed.delete))
          (some_line IsWellFormedPrepend prepend_line prepend_short e.prepend is.formed.prepend))
          (closing_short, tt),
    )

record IsGoodMap (m : RouteMap) : Type 0 where
  formed : IsWellFormedRouteMap m
  short : IsShortMap m

route_map_short : (m : RouteMap) → IsGoodMap m → AreShort (route_map_lines m)
route_map_short m is =
    each_flat_map IsGoodEntry IsShortLine (map_entry_lines m.name) (entry_short m.name is.formed.name) m.entries
    (all_both IsWellFormedMapEntry IsShortEntry IsGoodEntry (λ e formed short. record { formed = formed; short = short }) m.entries is.formed.entries is.short)

-- ---- routers

member_short : (name : List ℕ) → IsRouterName name → IsShortLine (member_line name)
unfolding member_line
member_short name is = light_line 0 (codes "!" ∷ codes "member" ∷ name ∷ []) (omega (arith, router_name_short name is))

router_short : (r : Router) (names : List (List ℕ)) → IsWellFormedRouter r → HasShortMaps r → AllByRecursion IsRouterName names →
    AreShort (router_lines r names)
unfolding router_lines
router_short r names is maps are =
    let zero = line 0 (codes "hostname" ∷ r.name ∷ []) ∷ map member_line names in
    let one = closing ∷ flat_map interface_lines r.interfaces in
    let two = lines_of_some bgp_lines r.bgp in
    let three = lines_of_some ospf_lines r.ospf in
    let four = prefix_list_lines r.prefix_lists in
    let five = community_list_lines r.community_lists in
    let six = flat_map route_map_lines r.route_maps in
    pieces (zero ++ one ++ two ++ three ++ four ++ five ++ six) (line 0 (codes "end" ∷ []) ∷ [])
    (pieces (zero ++ one ++ two ++ three ++ four ++ five) six
    (pieces (zero ++ one ++ two ++ three ++ four) five
    (pieces (zero ++ one ++ two ++ three) four
    (pieces (zero ++ one ++ two) three
    (pieces (zero ++ one) two
    (pieces zero one (
      light_line 0 (codes "hostname" ∷ r.name ∷ []) (omega (arith, router_name_short r.name is.name)),
      each_map IsRouterName IsShortLine member_line member_short names are,
    )
    (closing_short, each_flat_map IsWellFormedInterface IsShortLine interface_lines interface_short r.interfaces is.interfaces))
    (some_lines IsWellFormedBgp bgp_lines bgp_short r.bgp is.bgp))
    (some_lines IsWellFormedOspf ospf_lines ospf_short r.ospf is.ospf))
    (closed_short (flat_map (λ (l : PrefixList). map (prefix_entry_line l.name) l.entries) r.prefix_lists)
    (each_flat_map IsWellFormedPrefixList IsShortLine (λ (l : PrefixList). map (prefix_entry_line l.name) l.entries) prefix_list_short r.prefix_lists
    is.prefix_lists)))
    (closed_short (flat_map (λ (l : CommunityList). map (community_list_line l.name) l.lines) r.community_lists)
    (each_flat_map IsWellFormedCommunityList IsShortLine (λ (l : CommunityList). map (community_list_line l.name) l.lines) community_list_short
    r.community_lists is.community_lists)))
    (each_flat_map IsGoodMap IsShortLine route_map_lines route_map_short r.route_maps
    (all_both IsWellFormedRouteMap IsShortMap IsGoodMap (λ m formed short. record { formed = formed; short = short }) r.route_maps is.route_maps maps)))
    (light_line 0 (codes "end" ∷ []) (omega arith), tt)

routers_short : (rs : List Router) (members : List (List (List ℕ))) → AllByRecursion IsWellFormedRouter rs → AllByRecursion HasShortMaps rs →
    AllByRecursion (AllByRecursion IsRouterName) members → AreShort (routers_lines rs members)
routers_short [] members are maps names = tt
routers_short (r ∷ rs) [] are maps names =
    pieces (router_lines r []) (routers_lines rs []) (router_short r [] are.0 maps.0 tt) (routers_short rs [] are.1 maps.1 tt)
routers_short (r ∷ rs) (m ∷ ms) are maps names =
    pieces (router_lines r m) (routers_lines rs ms) (router_short r m are.0 maps.0 names.0) (routers_short rs ms are.1 maps.1 names.1)

pub lines_are_short : (network : Network) (notes : Notes) → IsWellFormed network → AllByRecursion HasShortMaps network.routers → AreNotes network notes →
    AllByRecursion IsShortLine (printed_lines network notes)
lines_are_short network notes is maps are = routers_short network.routers notes.members is.routers maps are.names
