-- The printed text of a network: the lines of each router, in one order, as a device shows its
-- running configuration. Values are written as they are read: numbers in decimal, addresses as four
-- numbers joined by points (RFC 1123 section 2.1), communities as two halves (RFC 1997).
use Rattle.std.specs.Prelude.{ℕ, ◌/◌, ◌%◌, Bool, List, [], ◌∷◌, ◌++◌, if◌then◌else◌, Option, Some, None, codes, map, replicate}
use Rattle.std.specs.List.{flat_map, join_with_byte}
use Rattle.std.specs.Option.{is_some}
use Rattle.std.specs.Fmt.{decimal}
use Rattle.base_kit.specs.Prefixes.{Prefix}
use Rattle.cfg_ast.specs.meaning.Addresses.{Address}
use Rattle.cfg_ast.specs.text.TextLines.{TextLine}
use Rattle.cfg_ast.specs.text.Words.{mask_of, number_between}
use Rattle.cfg_ast.specs.declared.network.Network.{Network}
use Rattle.cfg_ast.specs.declared.network.Router.{Router}
use Rattle.cfg_ast.specs.declared.network.Notes.{Notes}
use Rattle.cfg_ast.specs.declared.network.Named.{Named}
use Rattle.cfg_ast.specs.declared.interface.Interface.{Interface}
use Rattle.cfg_ast.specs.declared.bgp.Base.{Base}
use Rattle.cfg_ast.specs.declared.bgp.BgpProcess.{BgpProcess}
use Rattle.cfg_ast.specs.declared.bgp.NetLine.{NetLine}
use Rattle.cfg_ast.specs.declared.bgp.Neighbor.{Neighbor}
use Rattle.cfg_ast.specs.declared.ospf.OspfProcess.{OspfProcess}
use Rattle.cfg_ast.specs.declared.ospf.AreaLine.{AreaLine}
use Rattle.cfg_ast.specs.declared.policy.PrefixList.{PrefixList}
use Rattle.cfg_ast.specs.declared.policy.PrefixEntry.{PrefixEntry}
use Rattle.cfg_ast.specs.declared.policy.CommunityList.{CommunityList}
use Rattle.cfg_ast.specs.declared.policy.CommunityLine.{CommunityLine}
use Rattle.cfg_ast.specs.declared.policy.NameLine.{NameLine}
use Rattle.cfg_ast.specs.declared.policy.Prepend.{Prepend}
use Rattle.cfg_ast.specs.declared.policy.RouteMap.{RouteMap}
use Rattle.cfg_ast.specs.declared.policy.MapEntry.{MapEntry}
use Rattle.cfg_ast.specs.declared.policy.Change.{Change}
use Rattle.cfg_ast.specs.declared.policy.Change.TheVariants.{Clear, Replace, Append}

-- ---- words

-- an address: four numbers joined by points
unfoldable pub address_text : ℕ → List ℕ
address_text addr =
    join_with_byte 46 (decimal (addr / 16777216) ∷ decimal (addr / 65536 % 256) ∷ decimal (addr / 256 % 256) ∷ decimal (addr % 256) ∷ [])

unfoldable pub prefix_text : Prefix → List ℕ
prefix_text prefix = address_text prefix.addr ++ 47 ∷ decimal prefix.len

unfoldable pub community_text : ℕ → List ℕ
community_text community = decimal (community / 65536) ++ 58 ∷ decimal (community % 65536)

abbrev pub act_text : Bool → List ℕ
act_text permit = if permit then codes "permit" else codes "deny"

-- ---- lines

-- a line by its indentation and its words
abbrev pub line : ℕ → List (List ℕ) → TextLine
line indent words = record { number = 0; indent = indent; words = words }

-- a line of a stanza
abbrev pub inner : List (List ℕ) → TextLine
inner words = line 1 words

abbrev pub closing : TextLine
closing = line 0 (codes "!" ∷ [])

-- the line of something that may be absent
abbrev pub line_of_given : {A : Type 0} → (A → TextLine) → Option A → List TextLine
line_of_given write None = []
line_of_given write (Some a) = write a ∷ []

abbrev pub line_if : Bool → TextLine → List TextLine
line_if b l = if b then l ∷ [] else []

-- some lines, and a closing one if there are any
abbrev pub closed : List TextLine → List TextLine
closed [] = []
closed (l ∷ ls) = (l ∷ ls) ++ closing ∷ []

-- ---- interfaces

unfoldable pub ip_address_line : Address → TextLine
ip_address_line a = inner (codes "ip" ∷ codes "address" ∷ address_text a.addr ∷ address_text (mask_of a.len) ∷ [])

unfoldable pub cost_line : ℕ → TextLine
cost_line cost = inner (codes "ip" ∷ codes "ospf" ∷ codes "cost" ∷ decimal cost ∷ [])

abbrev pub shutdown_line : TextLine
shutdown_line = inner (codes "shutdown" ∷ [])

unfoldable pub interface_lines : Interface → List TextLine
interface_lines i =
    line 0 (codes "interface" ∷ i.name ∷ [])
    ∷ line_of_given ip_address_line i.address ++ line_of_given cost_line i.cost ++ line_if i.shut shutdown_line ++ closing ∷ []

-- ---- BGP

unfoldable pub base_line : Base → TextLine
base_line base = inner (codes "bgp" ∷ codes "default" ∷ codes "local-preference" ∷ decimal base.value ∷ [])

unfoldable pub network_line : NetLine → TextLine
network_line n = inner (codes "network" ∷ address_text n.prefix.addr ∷ codes "mask" ∷ address_text (mask_of n.prefix.len) ∷ [])

-- a line of a neighbour begins with its address
abbrev pub peer_line : ℕ → List (List ℕ) → TextLine
peer_line addr words = inner (codes "neighbor" ∷ address_text addr ∷ words)

unfoldable pub remote_line : ℕ → ℕ → TextLine
remote_line addr remote = peer_line addr (codes "remote-as" ∷ decimal remote ∷ [])

unfoldable pub peer_shut_line : ℕ → TextLine
peer_shut_line addr = peer_line addr (codes "shutdown" ∷ [])

unfoldable pub peer_sends_line : ℕ → TextLine
peer_sends_line addr = peer_line addr (codes "send-community" ∷ [])

-- a prefix list or a route map that is applied to what comes in, or to what goes out
unfoldable pub applied_line : ℕ → List ℕ → List ℕ → Named → TextLine
applied_line addr what way named = peer_line addr (what ∷ named.name ∷ way ∷ [])

unfoldable pub neighbor_lines : Neighbor → List TextLine
neighbor_lines n =
    remote_line n.addr n.remote
    ∷ line_if n.shut (peer_shut_line n.addr)
    ++ line_if n.sends (peer_sends_line n.addr)
    ++ line_of_given (applied_line n.addr (codes "prefix-list") (codes "in")) n.list_in
    ++ line_of_given (applied_line n.addr (codes "prefix-list") (codes "out")) n.list_out
    ++ line_of_given (applied_line n.addr (codes "route-map") (codes "in")) n.map_in
    ++ line_of_given (applied_line n.addr (codes "route-map") (codes "out")) n.map_out

unfoldable pub bgp_lines : BgpProcess → List TextLine
bgp_lines b =
    line 0 (codes "router" ∷ codes "bgp" ∷ decimal b.number ∷ [])
    ∷ line_of_given base_line b.base ++ map network_line b.networks ++ flat_map neighbor_lines b.neighbors ++ closing ∷ []

-- ---- OSPF

abbrev pub passive_default_line : TextLine
passive_default_line = inner (codes "passive-interface" ∷ codes "default" ∷ [])

abbrev pub passive_line : List ℕ → TextLine
passive_line name = inner (codes "passive-interface" ∷ name ∷ [])

abbrev pub not_passive_line : List ℕ → TextLine
not_passive_line name = inner (codes "no" ∷ codes "passive-interface" ∷ name ∷ [])

unfoldable pub network_area_line : AreaLine → TextLine
network_area_line a = inner (codes "network" ∷ address_text a.addr ∷ address_text a.wild ∷ codes "area" ∷ decimal a.area ∷ [])

unfoldable pub ospf_lines : OspfProcess → List TextLine
ospf_lines o =
    line 0 (codes "router" ∷ codes "ospf" ∷ decimal o.number ∷ [])
    ∷ line_if o.passive_default passive_default_line ++ map passive_line o.passive ++ map not_passive_line o.not_passive ++ map network_area_line o.areas
    ++ closing ∷ []

-- ---- lists

unfoldable pub bound_words : List ℕ → Option ℕ → List (List ℕ)
bound_words name None = []
bound_words name (Some n) = name ∷ decimal n ∷ []

unfoldable pub prefix_entry_line : List ℕ → PrefixEntry → TextLine
prefix_entry_line name e =
    line 0 (codes "ip" ∷ codes "prefix-list" ∷ name ∷ codes "seq" ∷ decimal e.seq ∷ act_text e.permit ∷ prefix_text e.prefix ∷ bound_words (codes "ge") e.ge ++ bound_words (codes "le") e.le)

abbrev pub prefix_list_lines : List PrefixList → List TextLine
prefix_list_lines lists = closed (flat_map (λ l. map (prefix_entry_line l.name) l.entries) lists)

-- a list that is named by a number from 1 to 99 is written without `standard`
abbrev pub community_list_name : List ℕ → List (List ℕ)
community_list_name name = if is_some (number_between 1 99 name) then name ∷ [] else codes "standard" ∷ name ∷ []

unfoldable pub community_list_line : List ℕ → CommunityLine → TextLine
community_list_line name c =
    line 0 (codes "ip" ∷ codes "community-list" ∷ community_list_name name ++ act_text c.permit ∷ map community_text c.comms)

abbrev pub community_list_lines : List CommunityList → List TextLine
community_list_lines lists = closed (flat_map (λ l. map (community_list_line l.name) l.lines) lists)

-- ---- route maps

unfoldable pub map_head_line : List ℕ → MapEntry → TextLine
map_head_line name e = line 0 (codes "route-map" ∷ name ∷ act_text e.permit ∷ decimal e.seq ∷ [])

unfoldable pub match_prefixes_line : NameLine → TextLine
match_prefixes_line l = inner (codes "match" ∷ codes "ip" ∷ codes "address" ∷ codes "prefix-list" ∷ l.names)

-- the mark stands behind the names
unfoldable pub match_comms_line : Bool → NameLine → TextLine
match_comms_line exact l = inner (codes "match" ∷ codes "community" ∷ l.names ++ (if exact then codes "exact-match" ∷ [] else []))

unfoldable pub lp_line : ℕ → TextLine
lp_line lp = inner (codes "set" ∷ codes "local-preference" ∷ decimal lp ∷ [])

unfoldable pub change_line : Change → TextLine
change_line Clear = inner (codes "set" ∷ codes "community" ∷ codes "none" ∷ [])
change_line (Replace comms) = inner (codes "set" ∷ codes "community" ∷ map community_text comms)
change_line (Append comms) = inner (codes "set" ∷ codes "community" ∷ map community_text comms ++ codes "additive" ∷ [])

unfoldable pub delete_line : Named → TextLine
delete_line list = inner (codes "set" ∷ codes "comm-list" ∷ list.name ∷ codes "delete" ∷ [])

unfoldable pub prepend_line : Prepend → TextLine
prepend_line p = inner (codes "set" ∷ codes "as-path" ∷ codes "prepend" ∷ map decimal p.numbers)

unfoldable pub map_entry_lines : List ℕ → MapEntry → List TextLine
map_entry_lines name e =
    map_head_line name e
    ∷ line_of_given match_prefixes_line e.prefixes
    ++ line_of_given (match_comms_line e.exact) e.comms
    ++ line_of_given lp_line e.lp
    ++ line_of_given change_line e.change
    ++ line_of_given delete_line e.delete
    ++ line_of_given prepend_line e.prepend
    ++ closing ∷ []

abbrev pub route_map_lines : RouteMap → List TextLine
route_map_lines m = flat_map (map_entry_lines m.name) m.entries

-- ---- routers

abbrev pub lines_of_some : {A : Type 0} → (A → List TextLine) → Option A → List TextLine
lines_of_some write None = []
lines_of_some write (Some a) = write a

unfoldable pub member_line : List ℕ → TextLine
member_line member = line 0 (codes "!" ∷ codes "member" ∷ member ∷ [])

-- a router, and the names of those that it stands for
unfoldable pub router_lines : Router → List (List ℕ) → List TextLine
router_lines r members =
    line 0 (codes "hostname" ∷ r.name ∷ [])
    ∷ map member_line members ++ closing
    ∷ flat_map interface_lines r.interfaces
    ++ lines_of_some bgp_lines r.bgp
    ++ lines_of_some ospf_lines r.ospf
    ++ prefix_list_lines r.prefix_lists
    ++ community_list_lines r.community_lists
    ++ flat_map route_map_lines r.route_maps
    ++ line 0 (codes "end" ∷ []) ∷ []

abbrev pub routers_lines : List Router → List (List (List ℕ)) → List TextLine
routers_lines [] members = []
routers_lines (r ∷ rs) [] = router_lines r [] ++ routers_lines rs []
routers_lines (r ∷ rs) (names ∷ members) = router_lines r names ++ routers_lines rs members

-- the lines of the text
abbrev pub printed_lines : Network → Notes → List TextLine
printed_lines network notes = routers_lines network.routers notes.members

-- ---- the text

-- a line as bytes: blanks, the words with one blank between, and a newline
abbrev pub line_text : TextLine → List ℕ
line_text l = replicate l.indent 32 ++ join_with_byte 32 l.words ++ 10 ∷ []

abbrev pub lines_text : List TextLine → List ℕ
lines_text ls = flat_map line_text ls

-- the whole text
unfoldable pub printed : Network → Notes → List ℕ
printed network notes = lines_text (printed_lines network notes)
