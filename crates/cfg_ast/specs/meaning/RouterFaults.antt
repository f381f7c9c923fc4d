-- What is wrong with the meaning of router lines: each definition lists the lines at which one kind of
-- fault stands.
use Rattle.std.specs.Prelude.{ℕ, ◌+◌, ◌-◌, ◌/◌, ◌^◌, min, Bool, true, false, not, ◌&&◌, List, [], ◌∷◌, ◌++◌, Option, Some, None, map, filter, filter_map, flat_map, nat_eq, nat_lt, bytes_eq, is_some, length, slice_get, codes, option_to_list, if◌then◌else◌}
use Rattle.std.specs.Option.{option_map, option_map_or}
use Rattle.std.specs.List.{list_any}
use Rattle.base_kit.specs.declared.protocol.Protocol.{Protocol}
use Rattle.base_kit.specs.declared.protocol.Protocol.TheVariants as protocol
use Rattle.cfg_ast.specs.meaning.Addresses.{Address}
use Rattle.cfg_ast.specs.declared.interface.Interface.{Interface}
use Rattle.cfg_ast.specs.declared.bgp.BgpProcess.{BgpProcess}
use Rattle.cfg_ast.specs.declared.bgp.Neighbor.{Neighbor}
use Rattle.cfg_ast.specs.declared.ospf.OspfProcess.{OspfProcess}
use Rattle.cfg_ast.specs.declared.ospf.AreaLine.{AreaLine}
use Rattle.cfg_ast.specs.declared.network.Router.{Router}
use Rattle.cfg_ast.specs.declared.network.Network.{Network}
use Rattle.cfg_ast.specs.meaning.Topology.{up_address, is_in_area_interface, is_active_interface, type_of, cost_of_interface, same_subnet, neighbors_of}

-- the items that are like an earlier one, after those in `past`
abbrev pub repeats_after : {X : Type 0} → (X → X → Bool) → List X → List X → List X
repeats_after alike past [] = []
repeats_after alike past (x ∷ xs) = if list_any (alike x) past then x ∷ repeats_after alike (x ∷ past) xs else repeats_after alike (x ∷ past) xs

-- the items that are like an earlier one
abbrev pub repeats : {X : Type 0} → (X → X → Bool) → List X → List X
repeats alike xs = repeats_after alike [] xs

-- the items that are unlike the first
abbrev pub unlike_first : {X : Type 0} → (X → X → Bool) → List X → List X
unlike_first alike [] = []
unlike_first alike (x ∷ xs) = filter (λ y. not (alike x y)) xs

-- the item behind the first `limit` ones
abbrev pub first_beyond : {X : Type 0} → ℕ → List X → List X
first_beyond limit xs = option_to_list (slice_get xs limit)

abbrev pub address_line : Address → ℕ
address_line a = a.line

-- SharedName: a `hostname` line that repeats an earlier router's name

unfoldable pub shared_name_lines : Network → List ℕ
shared_name_lines n = map (λ (r : Router). r.line) (repeats (λ (r q : Router). bytes_eq r.name q.name) n.routers)

-- SharedAs: a `router bgp` line that repeats an earlier router's number

unfoldable pub shared_as_lines : Network → List ℕ
shared_as_lines n = map (λ (b : BgpProcess). b.line) (repeats (λ (b c : BgpProcess). nat_eq b.number c.number) (filter_map (λ (r : Router). r.bgp) n.routers))

-- InternalPeer: a `remote-as` line with the router's own number

abbrev pub internal_peers : BgpProcess → List Neighbor
internal_peers process = filter (λ (neighbor : Neighbor). nat_eq neighbor.remote process.number) process.neighbors

abbrev pub internal_peers_of : Router → List Neighbor
internal_peers_of router = option_map_or internal_peers router.bgp []

unfoldable pub internal_peer_lines : Network → List ℕ
internal_peer_lines n = map (λ (neighbor : Neighbor). neighbor.line) (flat_map internal_peers_of n.routers)

-- MixedProtocols: a `router` line of another protocol than the first `router` line

pub record ProtocolLine : Type 0 where
  pub line : ℕ
  pub protocol : Protocol

abbrev pub of_bgp : BgpProcess → ProtocolLine
of_bgp process = record { line = process.line; protocol = protocol.Bgp }

abbrev pub of_ospf : OspfProcess → ProtocolLine
of_ospf process = record { line = process.line; protocol = protocol.Ospf }

-- the `router` lines of a router, in their order
abbrev pub lines_in_order : Option BgpProcess → Option OspfProcess → List ProtocolLine
lines_in_order None None = []
lines_in_order None (Some o) = of_ospf o ∷ []
lines_in_order (Some b) None = of_bgp b ∷ []
lines_in_order (Some b) (Some o) = if nat_lt b.line o.line then of_bgp b ∷ of_ospf o ∷ [] else of_ospf o ∷ of_bgp b ∷ []

abbrev pub protocol_lines_of : Router → List ProtocolLine
protocol_lines_of router = lines_in_order router.bgp router.ospf

abbrev pub protocol_lines : Network → List ProtocolLine
protocol_lines n = flat_map protocol_lines_of n.routers

abbrev pub is_same_protocol : Protocol → Protocol → Bool
is_same_protocol protocol.Bgp protocol.Bgp = true
is_same_protocol protocol.Ospf protocol.Ospf = true
is_same_protocol p q = false

abbrev pub same_protocol : ProtocolLine → ProtocolLine → Bool
same_protocol l m = is_same_protocol l.protocol m.protocol

unfoldable pub mixed_protocol_lines : Network → List ℕ
mixed_protocol_lines n = map (λ (l : ProtocolLine). l.line) (unlike_first same_protocol (protocol_lines n))

-- the protocol of the first `router` line, if there is one
abbrev pub protocol_of : Network → Option Protocol
protocol_of n = option_map (λ (l : ProtocolLine). l.protocol) (slice_get (protocol_lines n) 0)

-- OtherArea: an OSPF `network` line with another area than the first such line

abbrev pub areas_of : Router → List AreaLine
areas_of router = option_map_or (λ (process : OspfProcess). process.areas) router.ospf []

abbrev pub area_lines : Network → List AreaLine
area_lines n = flat_map areas_of n.routers

unfoldable pub other_area_lines : Network → List ℕ
other_area_lines n = map (λ (l : AreaLine). l.line) (unlike_first (λ (l m : AreaLine). nat_eq l.area m.area) (area_lines n))

-- the area of the first OSPF `network` line, if there is one
abbrev pub area_of : Network → Option ℕ
area_of n = option_map (λ (l : AreaLine). l.area) (slice_get (area_lines n) 0)

-- SharedAddress: an `ip address` line of an up interface whose address an earlier up interface has

abbrev pub up_addresses_of : Router → List Address
up_addresses_of router = filter_map up_address router.interfaces

unfoldable pub shared_address_lines : Network → List ℕ
shared_address_lines n = map address_line (repeats (λ (a b : Address). nat_eq a.addr b.addr) (flat_map up_addresses_of n.routers))

-- OverlappingInterfaces: an `ip address` line of an up interface whose subnet overlaps that of an
-- earlier up interface of the same router

-- one of two subnets lies in the other: cut to the shorter mask, both are the same
abbrev pub overlap : Address → Address → Bool
overlap a b = nat_eq (a.addr / 2 ^ (32 - min a.len b.len)) (b.addr / 2 ^ (32 - min a.len b.len))

unfoldable pub overlapping_lines : Network → List ℕ
overlapping_lines n = map address_line (flat_map (λ router. repeats overlap (up_addresses_of router)) n.routers)

-- LoopbackMask: the `ip address` line of an up loopback in the OSPF area whose mask is not /32

abbrev pub is_wide_loopback : Interface → Bool
is_wide_loopback x = bytes_eq (type_of x) (codes "Loopback") && not (option_map_or (λ (a : Address). nat_eq a.len 32) x.address false)

-- the addresses of the interfaces in the area that have a fault
abbrev pub area_addresses_with : (Interface → Bool) → Router → List Address
area_addresses_with has_fault router =
    filter_map (λ x. if is_in_area_interface router x && has_fault x then up_address x else None) router.interfaces

unfoldable pub loopback_mask_lines : Network → List ℕ
loopback_mask_lines n = map address_line (flat_map (area_addresses_with is_wide_loopback) n.routers)

-- NoCost: the `ip address` line of an up interface in the area that has no cost

unfoldable pub no_cost_lines : Network → List ℕ
no_cost_lines n = map address_line (flat_map (area_addresses_with (λ x. not (is_some (cost_of_interface x)))) n.routers)

-- TooManyRouters: the `hostname` line of the 4,097th router

unfoldable pub too_many_routers_lines : Network → List ℕ
too_many_routers_lines n = map (λ (r : Router). r.line) (first_beyond 4096 n.routers)

-- TooManyNeighbors: the 131,073rd `remote-as` line

unfoldable pub too_many_neighbors_lines : Network → List ℕ
too_many_neighbors_lines n = map (λ (neighbor : Neighbor). neighbor.line) (first_beyond 131072 (flat_map neighbors_of n.routers))

-- TooManyLinks: the `ip address` line at which the number of OSPF adjacent pairs, counted in the order
-- of the lines, first exceeds 1,048,576

abbrev pub active_addresses_of : Router → List Address
active_addresses_of router = filter_map (λ x. if is_active_interface router x then up_address x else None) router.interfaces

-- an `ip address` line, and the number of pairs that it adds
pub record Added : Type 0 where
  pub line : ℕ
  pub pairs : ℕ

-- an active interface adds the number of active interfaces of earlier routers in its subnet
abbrev pub added_by : List Address → Address → Added
added_by earlier a = record { line = a.line; pairs = length (filter (same_subnet a) earlier) }

-- the same for each active interface, the routers after those with the active interfaces `earlier`
abbrev pub added_after : List Address → List Router → List Added
added_after earlier [] = []
added_after earlier (router ∷ routers) = map (added_by earlier) (active_addresses_of router) ++ added_after (earlier ++ active_addresses_of router) routers

-- the line at which the sum of the pairs first exceeds the limit
abbrev pub exceeding : ℕ → ℕ → List Added → List ℕ
exceeding limit sum [] = []
exceeding limit sum (a ∷ rest) = if nat_lt limit (sum + a.pairs) then a.line ∷ [] else exceeding limit (sum + a.pairs) rest

unfoldable pub too_many_links_lines : Network → List ℕ
too_many_links_lines n = exceeding 1048576 0 (added_after [] n.routers)
