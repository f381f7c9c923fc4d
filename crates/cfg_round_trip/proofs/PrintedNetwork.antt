-- Each printed line of a well-formed network has words, and these are words that a line can have.
use Rattle.std.proofs.Common.{ℕ, ◌≤◌, Bool, true, false, List, [], ◌∷◌, ◌++◌, map, flat_map, refl, codes, Option, Some, None, arith}
use Rattle.std.specs.Prelude.{IfSome, is_some, if◌then◌else◌}
use Rattle.std.specs.List.{AllByRecursion}
use Rattle.std.specs.Fmt.{decimal}
use Rattle.cfg_ast.specs.meaning.Addresses.{Address}
use Rattle.cfg_ast.specs.text.TextLines.{TextLine}
use Rattle.cfg_ast.specs.text.Words.{mask_of, number_between}
use Rattle.cfg_ast.specs.declared.network.Network.{Network}
use Rattle.cfg_ast.specs.declared.network.Router.{Router}
use Rattle.cfg_ast.specs.declared.network.Notes.{Notes}
use Rattle.cfg_ast.specs.declared.network.Named.{Named}
use Rattle.cfg_ast.specs.declared.interface.Interface.{Interface}
use Rattle.cfg_ast.specs.declared.bgp.Base.{Base}
use Rattle.cfg_ast.specs.declared.bgp.BgpProcess.{BgpProcess}
use Rattle.cfg_ast.specs.declared.bgp.NetLine.{NetLine}
use Rattle.cfg_ast.specs.declared.bgp.Neighbor.{Neighbor}
use Rattle.cfg_ast.specs.declared.ospf.OspfProcess.{OspfProcess}
use Rattle.cfg_ast.specs.declared.ospf.AreaLine.{AreaLine}
use Rattle.cfg_ast.specs.declared.policy.PrefixList.{PrefixList}
use Rattle.cfg_ast.specs.declared.policy.PrefixEntry.{PrefixEntry}
use Rattle.cfg_ast.specs.declared.policy.CommunityList.{CommunityList}
use Rattle.cfg_ast.specs.declared.policy.CommunityLine.{CommunityLine}
use Rattle.cfg_ast.specs.declared.policy.NameLine.{NameLine}
use Rattle.cfg_ast.specs.declared.policy.Prepend.{Prepend}
use Rattle.cfg_ast.specs.declared.policy.RouteMap.{RouteMap}
use Rattle.cfg_ast.specs.declared.policy.MapEntry.{MapEntry}
use Rattle.cfg_ast.specs.declared.policy.Change.{Change}
use Rattle.cfg_ast.specs.declared.policy.Change.TheVariants.{Clear, Replace, Append}
use Rattle.cfg_ast.specs.printing.Printed.{address_text, community_text, prefix_text, act_text, line, closing, line_of_given, line_if, closed, ip_address_line, cost_line, shutdown_line, interface_lines, base_line, network_line, peer_line, remote_line, peer_shut_line, peer_sends_line, applied_line, neighbor_lines, bgp_lines, passive_default_line, passive_line, not_passive_line, network_area_line, ospf_lines, bound_words, prefix_entry_line, prefix_list_lines, community_list_name, community_list_line, community_list_lines, map_head_line, match_prefixes_line, match_comms_line, lp_line, change_line, delete_line, prepend_line, map_entry_lines, route_map_lines, lines_of_some, member_line, router_lines, routers_lines, printed_lines}
use Rattle.cfg_ast.specs.printing.WellFormed.{IsBetween, IsNumber, IsListName, IsCommunitySet, IsWellFormedAddress, IsWellFormedInterface, IsWellFormedNetLine, IsWellFormedNamed, IsWellFormedNeighbor, IsWellFormedBase, IsWellFormedBgp, IsWellFormedArea, IsInterfaceName, IsWellFormedOspf, AreBounds, IsWellFormedPrefixEntry, IsWellFormedPrefixList, IsWellFormedCommunityLine, IsWellFormedCommunityList, IsWellFormedNameLine, IsWellFormedChange, IsWellFormedPrepend, IsWellFormedMapEntry, IsWellFormedRouteMap, IsWellFormedRouter, IsWellFormed}
use Rattle.cfg_round_trip.specs.Notes.{IsRouterName, AreNotes}
use Rattle.cfg_round_trip.proofs.PrintedLines.{IsPrintedWord, IsPrintedLine}
use Rattle.cfg_round_trip.proofs.LineBytes.{each_append}
use Rattle.cfg_round_trip.proofs.PrintedWords.{word_as_tested, decimal_prints, address_prints, mask_prints, prefix_prints, community_prints, act_prints, router_name_prints, interface_name_prints, list_name_prints}

-- ---- lists of lines and of words

pub each_map : {X Y : Type 0} (P : X → Type 0) (Q : Y → Type 0) (f : X → Y) → ((x : X) → P x → Q (f x)) → (xs : List X) → AllByRecursion P xs →
    AllByRecursion Q (map f xs)
each_map P Q f one [] each = tt
each_map P Q f one (x ∷ xs) each = (one x each.0, each_map P Q f one xs each.1)

pub each_flat_map : {X Y : Type 0} (P : X → Type 0) (Q : Y → Type 0) (f : X → List Y) → ((x : X) → P x → AllByRecursion Q (f x)) → (xs : List X) →
    AllByRecursion P xs → AllByRecursion Q (flat_map f xs)
each_flat_map P Q f one [] each = tt
each_flat_map P Q f one (x ∷ xs) each = each_append Q (f x) (flat_map f xs) (one x each.0) (each_flat_map P Q f one xs each.1)

abbrev AreLines : List TextLine → Type 0
AreLines ls = AllByRecursion IsPrintedLine ls

abbrev AreWords : List (List ℕ) → Type 0
AreWords ws = AllByRecursion IsPrintedWord ws

some_line : {X : Type 0} (P : X → Type 0) (write : X → TextLine) → ((x : X) → P x → IsPrintedLine (write x)) → (o : Option X) → IfSome o P →
    AreLines (line_of_given write o)
some_line P write one None is = tt
some_line P write one (Some x) is = (one x is, tt)

some_lines : {X : Type 0} (P : X → Type 0) (write : X → List TextLine) → ((x : X) → P x → AreLines (write x)) → (o : Option X) → IfSome o P →
    AreLines (lines_of_some write o)
some_lines P write one None is = tt
some_lines P write one (Some x) is = one x is

chosen_line : (b : Bool) (l : TextLine) → IsPrintedLine l → AreLines (line_if b l)
chosen_line true l is = (is, tt)
chosen_line false l is = tt

-- a line of words
words_line : (dent : ℕ) (w : List ℕ) (ws : List (List ℕ)) → IsPrintedWord w → AreWords ws → IsPrintedLine (line dent (w ∷ ws))
words_line dent w ws first more = record { some = omega arith; words = (first, more) }

closing_line : IsPrintedLine closing
closing_line = words_line 0 (codes "!") [] (word_as_tested (codes "!") refl) tt

last_closing : AreLines (closing ∷ [])
last_closing = (closing_line, tt)

closed_lines : (ls : List TextLine) → AreLines ls → AreLines (closed ls)
closed_lines [] each = tt
closed_lines (l ∷ ls) each = each_append IsPrintedLine (l ∷ ls) (closing ∷ []) each last_closing

-- ---- interfaces

address_is : (a : Address) → IsWellFormedAddress a → IsPrintedLine (ip_address_line a)
unfolding ip_address_line
address_is a is = words_line 1 (codes "ip") (codes "address" ∷ address_text a.addr ∷ address_text (mask_of a.len) ∷ []) (word_as_tested (codes "ip") refl)
    (word_as_tested (codes "address") refl, (address_prints a.addr is.addr, (mask_prints a.len, tt)))

cost_is : (cost : ℕ) → IsBetween 1 65535 cost → IsPrintedLine (cost_line cost)
unfolding cost_line
cost_is cost is =
    let small = is.1 in
    words_line 1 (codes "ip") (codes "ospf" ∷ codes "cost" ∷ decimal cost ∷ []) (word_as_tested (codes "ip") refl)
    (word_as_tested (codes "ospf") refl, (word_as_tested (codes "cost") refl, (decimal_prints cost (omega arith), tt)))

shutdown_is : IsPrintedLine shutdown_line
shutdown_is = words_line 1 (codes "shutdown") [] (word_as_tested (codes "shutdown") refl) tt

interface_is : (i : Interface) → IsWellFormedInterface i → AreLines (interface_lines i)
unfolding interface_lines
interface_is i is =
    let head = words_line 0 (codes "interface") (i.name ∷ []) (word_as_tested (codes "interface") refl) (interface_name_prints i.name is.name, tt) in
    let address = some_line IsWellFormedAddress ip_address_line address_is i.address is.address in
    let cost = some_line (IsBetween 1 65535) cost_line cost_is i.cost is.cost in
    let shut = chosen_line i.shut shutdown_line shutdown_is in
    let a = line_of_given ip_address_line i.address in
    let c = line_of_given cost_line i.cost in
    let s = line_if i.shut shutdown_line in (
      head,
      each_append IsPrintedLine (a ++ c ++ s) (closing ∷ []) (each_append IsPrintedLine (a ++ c) s (each_append IsPrintedLine a c address cost) shut)
          last_closing,
    )

-- ---- BGP

base_is : (base : Base) → IsWellFormedBase base → IsPrintedLine (base_line base)
unfolding base_line
base_is base is =
    words_line 1 (codes "bgp") (codes "default" ∷ codes "local-preference" ∷ decimal base.value ∷ []) (word_as_tested (codes "bgp") refl)
    (word_as_tested (codes "default") refl, (word_as_tested (codes "local-preference") refl, (decimal_prints base.value is, tt)))

network_is : (n : NetLine) → IsWellFormedNetLine n → IsPrintedLine (network_line n)
unfolding network_line
network_is n is =
    words_line 1 (codes "network") (address_text n.prefix.addr ∷ codes "mask" ∷ address_text (mask_of n.prefix.len) ∷ [])
    (word_as_tested (codes "network") refl) (
      address_prints n.prefix.addr is.prefix.addr,
      (word_as_tested (codes "mask") refl, (mask_prints n.prefix.len, tt)),
    )

neighbor_is : (addr : ℕ) (ws : List (List ℕ)) → IsNumber addr → AreWords ws → IsPrintedLine (peer_line addr ws)
neighbor_is addr ws is more = words_line 1 (codes "neighbor") (address_text addr ∷ ws) (word_as_tested (codes "neighbor") refl) (address_prints addr is, more)

remote_is : (addr remote : ℕ) → IsNumber addr → IsBetween 1 4294967295 remote → IsPrintedLine (remote_line addr remote)
unfolding remote_line
remote_is addr remote is number = neighbor_is addr (codes "remote-as" ∷ decimal remote ∷ []) is
    (word_as_tested (codes "remote-as") refl, (decimal_prints remote number.1, tt))

peer_shut_is : (addr : ℕ) → IsNumber addr → IsPrintedLine (peer_shut_line addr)
unfolding peer_shut_line
peer_shut_is addr is = neighbor_is addr (codes "shutdown" ∷ []) is (word_as_tested (codes "shutdown") refl, tt)

peer_sends_is : (addr : ℕ) → IsNumber addr → IsPrintedLine (peer_sends_line addr)
unfolding peer_sends_line
peer_sends_is addr is = neighbor_is addr (codes "send-community" ∷ []) is (word_as_tested (codes "send-community") refl, tt)

applied_is : (addr : ℕ) (what way : List ℕ) → IsNumber addr → IsPrintedWord what → IsPrintedWord way → (named : Named) → IsWellFormedNamed named →
    IsPrintedLine (applied_line addr what way named)
unfolding applied_line
applied_is addr what way is says goes named name = neighbor_is addr (what ∷ named.name ∷ way ∷ []) is (says, (list_name_prints named.name name, (goes, tt)))

peer_is : (p : Neighbor) → IsWellFormedNeighbor p → AreLines (neighbor_lines p)
unfolding neighbor_lines
peer_is p is =
    let list = word_as_tested (codes "prefix-list") refl in
    let map = word_as_tested (codes "route-map") refl in
    let inward = word_as_tested (codes "in") refl in
    let outward = word_as_tested (codes "out") refl in
    let a = line_if p.shut (peer_shut_line p.addr) in
    let b = line_if p.sends (peer_sends_line p.addr) in
    let c = line_of_given (applied_line p.addr (codes "prefix-list") (codes "in")) p.list_in in
    let d = line_of_given (applied_line p.addr (codes "prefix-list") (codes "out")) p.list_out in
    let e = line_of_given (applied_line p.addr (codes "route-map") (codes "in")) p.map_in in
    let f = line_of_given (applied_line p.addr (codes "route-map") (codes "out")) p.map_out in
    let is_c = some_line IsWellFormedNamed (applied_line p.addr (codes "prefix-list") (codes "in"))
    (applied_is p.addr (codes "prefix-list") (codes "in") is.addr list inward) p.list_in is.list_in in
    let is_d = some_line IsWellFormedNamed (applied_line p.addr (codes "prefix-list") (codes "out"))
    (applied_is p.addr (codes "prefix-list") (codes "out") is.addr list outward) p.list_out is.list_out in
    let is_e = some_line IsWellFormedNamed (applied_line p.addr (codes "route-map") (codes "in"))
    (applied_is p.addr (codes "route-map") (codes "in") is.addr map inward) p.map_in is.map_in in
    let is_f = some_line IsWellFormedNamed (applied_line p.addr (codes "route-map") (codes "out"))
    (applied_is p.addr (codes "route-map") (codes "out") is.addr map outward) p.map_out is.map_out in
    let two = each_append IsPrintedLine a b (chosen_line p.shut (peer_shut_line p.addr) (peer_shut_is p.addr is.addr))
    (chosen_line p.sends (peer_sends_line p.addr) (peer_sends_is p.addr is.addr)) in
    let three = each_append IsPrintedLine (a ++ b) c two is_c in
    let four = each_append IsPrintedLine (a ++ b ++ c) d three is_d in
    let five = each_append IsPrintedLine (a ++ b ++ c ++ d) e four is_e in
    (remote_is p.addr p.remote is.addr is.remote, each_append IsPrintedLine (a ++ b ++ c ++ d ++ e) f five is_f)

bgp_is : (b : BgpProcess) → IsWellFormedBgp b → AreLines (bgp_lines b)
unfolding bgp_lines
bgp_is b is =
    let head = words_line 0 (codes "router") (codes "bgp" ∷ decimal b.number ∷ []) (word_as_tested (codes "router") refl)
    (word_as_tested (codes "bgp") refl, (decimal_prints b.number is.number.1, tt)) in
    let x = line_of_given base_line b.base in
    let y = map network_line b.networks in
    let z = flat_map neighbor_lines b.neighbors in
    let base = some_line IsWellFormedBase base_line base_is b.base is.base in
    let nets = each_map IsWellFormedNetLine IsPrintedLine network_line network_is b.networks is.networks in
    let peers = each_flat_map IsWellFormedNeighbor IsPrintedLine neighbor_lines peer_is b.neighbors is.neighbors in (
      head,
      each_append IsPrintedLine (x ++ y ++ z) (closing ∷ []) (each_append IsPrintedLine (x ++ y) z (each_append IsPrintedLine x y base nets) peers)
          last_closing,
    )

-- ---- OSPF

passive_is : (name : List ℕ) → IsInterfaceName name → IsPrintedLine (passive_line name)
passive_is name is = words_line 1 (codes "passive-interface") (name ∷ []) (word_as_tested (codes "passive-interface") refl) (interface_name_prints name is, tt)

not_passive_is : (name : List ℕ) → IsInterfaceName name → IsPrintedLine (not_passive_line name)
not_passive_is name is = words_line 1 (codes "no") (codes "passive-interface" ∷ name ∷ []) (word_as_tested (codes "no") refl)
    (word_as_tested (codes "passive-interface") refl, (interface_name_prints name is, tt))

default_is : IsPrintedLine passive_default_line
default_is = words_line 1 (codes "passive-interface") (codes "default" ∷ []) (word_as_tested (codes "passive-interface") refl)
    (word_as_tested (codes "default") refl, tt)

area_is : (a : AreaLine) → IsWellFormedArea a → IsPrintedLine (network_area_line a)
unfolding network_area_line
area_is a is =
    words_line 1 (codes "network") (address_text a.addr ∷ address_text a.wild ∷ codes "area" ∷ decimal a.area ∷ []) (word_as_tested (codes "network") refl)
    (address_prints a.addr is.addr, (address_prints a.wild is.wild, (word_as_tested (codes "area") refl, (decimal_prints a.area is.area, tt))))

ospf_is : (o : OspfProcess) → IsWellFormedOspf o → AreLines (ospf_lines o)
unfolding ospf_lines
ospf_is o is =
    let small = is.number.1 in
    let head = words_line 0 (codes "router") (codes "ospf" ∷ decimal o.number ∷ []) (word_as_tested (codes "router") refl)
    (word_as_tested (codes "ospf") refl, (decimal_prints o.number (omega arith), tt)) in
    let w = line_if o.passive_default passive_default_line in
    let x = map passive_line o.passive in
    let y = map not_passive_line o.not_passive in
    let z = map network_area_line o.areas in
    let passive = each_map IsInterfaceName IsPrintedLine passive_line passive_is o.passive is.passive in
    let not_passive = each_map IsInterfaceName IsPrintedLine not_passive_line not_passive_is o.not_passive is.not_passive in
    let areas = each_map IsWellFormedArea IsPrintedLine network_area_line area_is o.areas is.areas in
    let two = each_append IsPrintedLine w x (chosen_line o.passive_default passive_default_line default_is) passive in
    let three = each_append IsPrintedLine (w ++ x) y two not_passive in
    (head, each_append IsPrintedLine (w ++ x ++ y ++ z) (closing ∷ []) (each_append IsPrintedLine (w ++ x ++ y) z three areas) last_closing)

-- ---- lists

bound_is : (name : List ℕ) → IsPrintedWord name → (o : Option ℕ) → IfSome o (λ n. n ≤ 4294967295) → AreWords (bound_words name o)
unfolding bound_words
bound_is name is None small = tt
bound_is name is (Some n) small = (is, (decimal_prints n small, tt))

bounds_are : (len : ℕ) (ge le : Option ℕ) → AreBounds len ge le → IfSome ge (λ n. n ≤ 4294967295) × IfSome le (λ n. n ≤ 4294967295)
bounds_are len None None is = (tt, tt)
bounds_are len (Some g) None is = let high = is.1 in (omega arith, tt)
bounds_are len None (Some l) is = let high = is.1 in (tt, omega arith)
bounds_are len (Some g) (Some l) is = let high = is.0.1 in let top = is.1.1 in (omega arith, omega arith)

prefix_entry_is : (name : List ℕ) → IsListName name → (e : PrefixEntry) → IsWellFormedPrefixEntry e → IsPrintedLine (prefix_entry_line name e)
unfolding prefix_entry_line
prefix_entry_is name named e is =
    let small = bounds_are e.prefix.len e.ge e.le is.bounds in
    let bounds = each_append IsPrintedWord (bound_words (codes "ge") e.ge) (bound_words (codes "le") e.le)
    (bound_is (codes "ge") (word_as_tested (codes "ge") refl) e.ge small.0) (bound_is (codes "le") (word_as_tested (codes "le") refl) e.le small.1) in
    words_line 0 (codes "ip") (codes "prefix-list" ∷ name ∷ codes "seq" ∷ decimal e.seq ∷ act_text e.permit ∷ prefix_text e.prefix
    ∷ (bound_words (codes "ge") e.ge ++ bound_words (codes "le") e.le)) (word_as_tested (codes "ip") refl) (
      word_as_tested (codes "prefix-list") refl,
      (
        list_name_prints name named,
        (
          word_as_tested (codes "seq") refl,
          (
            decimal_prints e.seq is.seq.1,
            (act_prints e.permit, (prefix_prints e.prefix is.prefix.addr is.prefix.len, bounds)),
          ),
        ),
      ),
    )

prefix_list_is : (l : PrefixList) → IsWellFormedPrefixList l → AreLines (map (prefix_entry_line l.name) l.entries)
prefix_list_is l is = each_map IsWellFormedPrefixEntry IsPrintedLine (prefix_entry_line l.name) (prefix_entry_is l.name is.name) l.entries is.entries

list_name_is : (b : Bool) (name : List ℕ) → IsPrintedWord name → AreWords (if b then name ∷ [] else codes "standard" ∷ name ∷ [])
list_name_is true name is = (is, tt)
list_name_is false name is = (word_as_tested (codes "standard") refl, (is, tt))

community_line_is : (name : List ℕ) → IsListName name → (c : CommunityLine) → IsWellFormedCommunityLine c → IsPrintedLine (community_list_line name c)
unfolding community_list_line
community_line_is name named c is =
    let comms = each_map (IsBetween 1 4294901759) IsPrintedWord community_text community_prints c.comms is.each in
    let names = list_name_is (is_some (number_between 1 99 name)) name (list_name_prints name named) in
    words_line 0 (codes "ip") (codes "community-list" ∷ (community_list_name name ++ act_text c.permit ∷ map community_text c.comms))
    (word_as_tested (codes "ip") refl) (
      word_as_tested (codes "community-list") refl,
      each_append IsPrintedWord (community_list_name name) (act_text c.permit ∷ map community_text c.comms) names
          (act_prints c.permit, comms),
    )

community_list_is : (l : CommunityList) → IsWellFormedCommunityList l → AreLines (map (community_list_line l.name) l.lines)
community_list_is l is = each_map IsWellFormedCommunityLine IsPrintedLine (community_list_line l.name) (community_line_is l.name is.name) l.lines is.lines

-- ---- route maps

head_is : (name : List ℕ) (e : MapEntry) → IsListName name → e.seq ≤ 65535 → IsPrintedLine (map_head_line name e)
unfolding map_head_line
head_is name e named small = words_line 0 (codes "route-map") (name ∷ act_text e.permit ∷ decimal e.seq ∷ []) (word_as_tested (codes "route-map") refl)
    (list_name_prints name named, (act_prints e.permit, (decimal_prints e.seq (omega arith), tt)))

names_are : (l : NameLine) → IsWellFormedNameLine l → AreWords l.names
names_are l is = each_words l.names is.each
  where
    each_words : (names : List (List ℕ)) → AllByRecursion IsListName names → AreWords names
    each_words [] each = tt
    each_words (name ∷ names) each = (list_name_prints name each.0, each_words names each.1)

match_prefixes_is : (l : NameLine) → IsWellFormedNameLine l → IsPrintedLine (match_prefixes_line l)
unfolding match_prefixes_line
match_prefixes_is l is =
    words_line 1 (codes "match") (codes "ip" ∷ codes "address" ∷ codes "prefix-list" ∷ l.names) (word_as_tested (codes "match") refl)
    (word_as_tested (codes "ip") refl, (word_as_tested (codes "address") refl, (word_as_tested (codes "prefix-list") refl, names_are l is)))

mark_is : (exact : Bool) → AreWords (if exact then codes "exact-match" ∷ [] else [])
mark_is true = (word_as_tested (codes "exact-match") refl, tt)
mark_is false = tt

match_comms_is : (exact : Bool) (l : NameLine) → IsWellFormedNameLine l → IsPrintedLine (match_comms_line exact l)
unfolding match_comms_line
match_comms_is exact l is =
    words_line 1 (codes "match") (codes "community" ∷ (l.names ++ (if exact then codes "exact-match" ∷ [] else []))) (word_as_tested (codes "match") refl) (
      word_as_tested (codes "community") refl,
      each_append IsPrintedWord l.names (if exact then codes "exact-match" ∷ [] else []) (names_are l is)
          (mark_is exact),
    )

lp_is : (lp : ℕ) → IsNumber lp → IsPrintedLine (lp_line lp)
unfolding lp_line
lp_is lp is = words_line 1 (codes "set") (codes "local-preference" ∷ decimal lp ∷ []) (word_as_tested (codes "set") refl)
    (word_as_tested (codes "local-preference") refl, (decimal_prints lp is, tt))

comms_are : (comms : List ℕ) → IsCommunitySet comms → AreWords (map community_text comms)
comms_are comms is = each_map (IsBetween 1 4294901759) IsPrintedWord community_text community_prints comms is.each

change_is : (change : Change) → IsWellFormedChange change → IsPrintedLine (change_line change)
unfolding change_line
change_is Clear is = words_line 1 (codes "set") (codes "community" ∷ codes "none" ∷ []) (word_as_tested (codes "set") refl)
    (word_as_tested (codes "community") refl, (word_as_tested (codes "none") refl, tt))
change_is (Replace comms) is = words_line 1 (codes "set") (codes "community" ∷ map community_text comms) (word_as_tested (codes "set") refl)
    (word_as_tested (codes "community") refl, comms_are comms is)
change_is (Append comms) is =
    words_line 1 (codes "set") (codes "community" ∷ (map community_text comms ++ codes "additive" ∷ [])) (word_as_tested (codes "set") refl) (
      word_as_tested (codes "community") refl,
      each_append IsPrintedWord (map community_text comms) (codes "additive" ∷ []) (comms_are comms is)
          (word_as_tested (codes "additive") refl, tt),
    )

delete_is : (list : Named) → IsWellFormedNamed list → IsPrintedLine (delete_line list)
unfolding delete_line
delete_is list is = words_line 1 (codes "set") (codes "comm-list" ∷ list.name ∷ codes "delete" ∷ []) (word_as_tested (codes "set") refl)
    (word_as_tested (codes "comm-list") refl, (list_name_prints list.name is, (word_as_tested (codes "delete") refl, tt)))

as_number_prints : (n : ℕ) → IsBetween 1 4294967295 n → IsPrintedWord (decimal n)
as_number_prints n is = decimal_prints n is.1

prepend_is : (p : Prepend) → IsWellFormedPrepend p → IsPrintedLine (prepend_line p)
unfolding prepend_line
prepend_is p is =
    words_line 1 (codes "set") (codes "as-path" ∷ codes "prepend" ∷ map decimal p.numbers) (word_as_tested (codes "set") refl) (
      word_as_tested (codes "as-path") refl,
      (
        word_as_tested (codes "prepend") refl,
        each_map (IsBetween 1 4294967295) IsPrintedWord decimal as_number_prints p.numbers is.each,
      ),
    )

entry_is : (name : List ℕ) → IsListName name → (e : MapEntry) → IsWellFormedMapEntry e → AreLines (map_entry_lines name e)
unfolding map_entry_lines
entry_is name named e is =
    let a = line_of_given match_prefixes_line e.prefixes in
    let b = line_of_given (match_comms_line e.exact) e.comms in
    let c = line_of_given lp_line e.lp in
    let d = line_of_given change_line e.change in
    let f = line_of_given delete_line e.delete in
    let g = line_of_given prepend_line e.prepend in
    let two = each_append IsPrintedLine a b (some_line IsWellFormedNameLine match_prefixes_line match_prefixes_is e.prefixes is.prefixes)
    (some_line IsWellFormedNameLine (match_comms_line e.exact) (match_comms_is e.exact) e.comms is.comms) in
    let three = each_append IsPrintedLine (a ++ b) c two (some_line IsNumber lp_line lp_is e.lp is.lp) in
    let four = each_append IsPrintedLine (a ++ b ++ c) d three (some_line IsWellFormedChange change_line change_is e.change is.change) in
    let five = each_append IsPrintedLine (a ++ b ++ c ++ d) f four (some_line IsWellFormedNamed delete_line delete_is e.delete is.delete) in
    let six = each_append IsPrintedLine (a ++ b ++ c ++ d ++ f) g five (some_line IsWellFormedPrepend prepend_line prepend_is e.prepend is.prepend) in
    (head_is name e named is.seq, each_append IsPrintedLine (a ++ b ++ c ++ d ++ f ++ g) (closing ∷ []) six last_closing)

route_map_is : (m : RouteMap) → IsWellFormedRouteMap m → AreLines (route_map_lines m)
route_map_is m is = each_flat_map IsWellFormedMapEntry IsPrintedLine (map_entry_lines m.name) (entry_is m.name is.name) m.entries is.entries

-- ---- routers

member_is : (name : List ℕ) → IsRouterName name → IsPrintedLine (member_line name)
unfolding member_line
member_is name is = words_line 0 (codes "!") (codes "member" ∷ name ∷ []) (word_as_tested (codes "!") refl)
    (word_as_tested (codes "member") refl, (router_name_prints name is, tt))

end_is : IsPrintedLine (line 0 (codes "end" ∷ []))
end_is = words_line 0 (codes "end") [] (word_as_tested (codes "end") refl) tt

router_is : (r : Router) (names : List (List ℕ)) → IsWellFormedRouter r → AllByRecursion IsRouterName names → AreLines (router_lines r names)
unfolding router_lines
router_is r names is are =
    let head = words_line 0 (codes "hostname") (r.name ∷ []) (word_as_tested (codes "hostname") refl) (router_name_prints r.name is.name, tt) in
    let members = each_map IsRouterName IsPrintedLine member_line member_is names are in
    let front : AreLines (line 0 (codes "hostname" ∷ r.name ∷ []) ∷ map member_line names) = (head, members) in
    let a = line 0 (codes "hostname" ∷ r.name ∷ []) ∷ map member_line names in
    let b = flat_map interface_lines r.interfaces in
    let c = lines_of_some bgp_lines r.bgp in
    let d = lines_of_some ospf_lines r.ospf in
    let e = prefix_list_lines r.prefix_lists in
    let f = community_list_lines r.community_lists in
    let g = flat_map route_map_lines r.route_maps in
    let is_b = each_flat_map IsWellFormedInterface IsPrintedLine interface_lines interface_is r.interfaces is.interfaces in
    let is_c = some_lines IsWellFormedBgp bgp_lines bgp_is r.bgp is.bgp in
    let is_d = some_lines IsWellFormedOspf ospf_lines ospf_is r.ospf is.ospf in
    let is_e = closed_lines (flat_map (λ (l : PrefixList). map (prefix_entry_line l.name) l.entries) r.prefix_lists)
    (each_flat_map IsWellFormedPrefixList IsPrintedLine (λ (l : PrefixList). map (prefix_entry_line l.name) l.entries) prefix_list_is r.prefix_lists
    is.prefix_lists) in
    let is_f = closed_lines (flat_map (λ (l : CommunityList). map (community_list_line l.name) l.lines) r.community_lists)
    (each_flat_map IsWellFormedCommunityList IsPrintedLine (λ (l : CommunityList). map (community_list_line l.name) l.lines) community_list_is
    r.community_lists is.community_lists) in
    let is_g = each_flat_map IsWellFormedRouteMap IsPrintedLine route_map_lines route_map_is r.route_maps is.route_maps in
    let two = each_append IsPrintedLine a (closing ∷ b) front (closing_line, is_b) in
    let three = each_append IsPrintedLine (a ++ closing ∷ b) c two is_c in
    let four = each_append IsPrintedLine (a ++ closing ∷ b ++ c) d three is_d in
    let five = each_append IsPrintedLine (a ++ closing ∷ b ++ c ++ d) e four is_e in
    let six = each_append IsPrintedLine (a ++ closing ∷ b ++ c ++ d ++ e) f five is_f in
    let seven = each_append IsPrintedLine (a ++ closing ∷ b ++ c ++ d ++ e ++ f) g six is_g in
    each_append IsPrintedLine (a ++ closing ∷ b ++ c ++ d ++ e ++ f ++ g) (line 0 (codes "end" ∷ []) ∷ []) seven (end_is, tt)

routers_are : (rs : List Router) (members : List (List (List ℕ))) → AllByRecursion IsWellFormedRouter rs →
    AllByRecursion (AllByRecursion IsRouterName) members → AreLines (routers_lines rs members)
routers_are [] members are names = tt
routers_are (r ∷ rs) [] are names = each_append IsPrintedLine (router_lines r []) (routers_lines rs []) (router_is r [] are.0 tt) (routers_are rs [] are.1 tt)
routers_are (r ∷ rs) (m ∷ ms) are names =
    each_append IsPrintedLine (router_lines r m) (routers_lines rs ms) (router_is r m are.0 names.0) (routers_are rs ms are.1 names.1)

pub printed_lines_are_lines : (network : Network) (notes : Notes) → IsWellFormed network → AreNotes network notes →
    AllByRecursion IsPrintedLine (printed_lines network notes)
printed_lines_are_lines network notes is are = routers_are network.routers notes.members is.routers are.names
