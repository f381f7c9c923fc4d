-- Interfaces and links: what is up, subnets (RFC 4632 section 3.1), BGP sessions (RFC 4271 section 3),
-- OSPF adjacencies in one area (RFC 2328 sections 1.1 and 9), and the costs of interfaces (RFC 2328 section C.3).
use Rattle.std.specs.Prelude.{ℕ, ◌-◌, ◌*◌, ◌/◌, ◌^◌, Bool, false, not, ◌&&◌, List, [], ◌∷◌, ◌++◌, Option, Some, None, map, filter, filter_map, flat_map, find, nat_eq, nat_lt, bytes_eq, bit_or, is_some, slice_get, codes, if◌then◌else◌, option_and_then}
use Rattle.std.specs.Option.{option_map, option_map_or}
use Rattle.std.specs.List.{list_any, enumerate_from, before_first}
use Rattle.base_kit.specs.Numbers.{is_digit}
use Rattle.base_kit.specs.Prefixes.{Prefix}
use Rattle.cfg_ast.specs.meaning.Addresses.{Address}
use Rattle.cfg_ast.specs.declared.interface.Interface.{Interface}
use Rattle.cfg_ast.specs.declared.bgp.BgpProcess.{BgpProcess}
use Rattle.cfg_ast.specs.declared.bgp.Neighbor.{Neighbor}
use Rattle.cfg_ast.specs.declared.ospf.OspfProcess.{OspfProcess}
use Rattle.cfg_ast.specs.declared.ospf.AreaLine.{AreaLine}
use Rattle.cfg_ast.specs.declared.network.Router.{Router}
use Rattle.cfg_ast.specs.declared.network.Network.{Network}
use Rattle.cfg_ast.specs.declared.topology.Link.{Link}
use Rattle.cfg_ast.specs.declared.topology.Unmatched.{Unmatched}

-- an address cut to its mask
abbrev pub first_address : Address → ℕ
first_address a = a.addr / 2 ^ (32 - a.len) * 2 ^ (32 - a.len)

abbrev pub subnet_of_address : Address → Prefix
subnet_of_address a = record { addr = first_address a; len = a.len }

-- whether two addresses with their masks have one subnet
abbrev pub same_subnet : Address → Address → Bool
same_subnet a b = nat_eq a.len b.len && nat_eq (first_address a) (first_address b)

-- an interface is up if it has an address and no `shutdown`
abbrev pub is_up_interface : Interface → Bool
is_up_interface x = is_some x.address && not x.shut

-- the address of an up interface
abbrev pub up_address : Interface → Option Address
up_address x = if x.shut then None else x.address

abbrev pub subnet_of_interface : Interface → Option Prefix
subnet_of_interface x = option_map subnet_of_address x.address

-- the address agrees with the line in all bits where its wildcard has 0
abbrev pub line_has_address : AreaLine → ℕ → Bool
line_has_address line addr = nat_eq (bit_or addr line.wild) (bit_or line.addr line.wild)

-- some `network` line of the router's OSPF process has the address
abbrev pub process_has_address : Option OspfProcess → Address → Bool
process_has_address None a = false
process_has_address (Some process) a = list_any (λ (line : AreaLine). line_has_address line a.addr) process.areas

-- an up interface is in the area if a `network` line of its router has its address
abbrev pub is_in_area_interface : Router → Interface → Bool
is_in_area_interface router x = option_map_or (process_has_address router.ospf) (up_address x) false

abbrev pub names : List (List ℕ) → List ℕ → Bool
names all name = list_any (λ other. bytes_eq other name) all

-- an interface is passive by name, or by default and not excepted by name
abbrev pub is_passive_name : OspfProcess → List ℕ → Bool
is_passive_name process name = if process.passive_default then not (names process.not_passive name) else names process.passive name

abbrev pub is_passive_in : Option OspfProcess → List ℕ → Bool
is_passive_in None name = false
is_passive_in (Some process) name = is_passive_name process name

-- an interface is active if it is in the area and not passive
abbrev pub is_active_interface : Router → Interface → Bool
is_active_interface router x = is_in_area_interface router x && not (is_passive_in router.ospf x.name)

-- the type of an interface is its name up to its first digit
abbrev pub type_of : Interface → List ℕ
type_of x = before_first is_digit x.name

-- the types that have a default cost
unfoldable pub default_costs : List (List ℕ × ℕ)
default_costs =
    (codes "Loopback", 1) ∷ (codes "FastEthernet", 1) ∷ (codes "GigabitEthernet", 1) ∷ (codes "TenGigabitEthernet", 1) ∷ (codes "Vlan", 1)
    ∷ (codes "Ethernet", 10) ∷ (codes "Serial", 64) ∷ []

abbrev pub is_row_of : List ℕ → List ℕ × ℕ → Bool
is_row_of name row = bytes_eq row.0 name

-- the default cost of a type, if it has one
abbrev pub default_cost_of : List ℕ → Option ℕ
default_cost_of name = option_map (λ (row : List ℕ × ℕ). row.1) (find (is_row_of name) default_costs)

-- the cost that is given, else the default cost of the type
abbrev pub cost_of_interface : Interface → Option ℕ
cost_of_interface x = if is_some x.cost then x.cost else default_cost_of (type_of x)

-- The same for the interface at a place of its router.

abbrev pub is_up : Router → ℕ → Bool
is_up router i = option_map_or is_up_interface (slice_get router.interfaces i) false

abbrev pub subnet_of : Router → ℕ → Option Prefix
subnet_of router i = option_and_then subnet_of_interface (slice_get router.interfaces i)

abbrev pub is_in_area : Router → ℕ → Bool
is_in_area router i = option_map_or (is_in_area_interface router) (slice_get router.interfaces i) false

abbrev pub is_active : Router → ℕ → Bool
is_active router i = option_map_or (is_active_interface router) (slice_get router.interfaces i) false

abbrev pub cost_of : Router → ℕ → Option ℕ
cost_of router i = option_and_then cost_of_interface (slice_get router.interfaces i)

-- an item of a router, with its place in the network
pub record Place (X : Type 0) : Type 0 where
  pub router : ℕ
  pub item : ℕ
  pub owner : Router
  pub value : X

abbrev pub place_on : {X : Type 0} → ℕ → Router → ℕ × X → Place X
place_on r owner (i, x) = record { router = r; item = i; owner = owner; value = x }

abbrev pub places_on : {X : Type 0} → (Router → List X) → ℕ × Router → List (Place X)
places_on items (r, router) = map (place_on r router) (enumerate_from 0 (items router))

-- the items of all routers, in the order of the network
unfoldable pub places : {X : Type 0} → (Router → List X) → Network → List (Place X)
places items n = flat_map (places_on items) (enumerate_from 0 n.routers)

abbrev pub link_between : {X : Type 0} → Place X → Place X → Link
link_between p q = record { low = p.router; high = q.router; low_item = p.item; high_item = q.item }

abbrev pub links_from : {X : Type 0} → (Place X → Place X → Bool) → List (Place X) → Place X → List Link
links_from joins ps p = map (link_between p) (filter (joins p) ps)

-- all pairs of places that are joined, by the first place and then by the second
abbrev pub links_joining : {X : Type 0} → (Place X → Place X → Bool) → List (Place X) → List Link
links_joining joins ps = flat_map (links_from joins ps) ps

abbrev pub interfaces_of : Router → List Interface
interfaces_of router = router.interfaces

abbrev pub neighbors_of : Router → List Neighbor
neighbors_of router = option_map_or (λ (process : BgpProcess). process.neighbors) router.bgp []

-- the address of an active interface
abbrev pub active_address : Place Interface → Option Address
active_address p = if is_active_interface p.owner p.value then p.value.address else None

abbrev pub both_in_one_subnet : Option Address → Option Address → Bool
both_in_one_subnet (Some a) (Some b) = same_subnet a b
both_in_one_subnet (Some a) None = false
both_in_one_subnet None b = false

-- two active interfaces in one subnet
abbrev pub share_area_subnet : Place Interface → Place Interface → Bool
share_area_subnet p q = both_in_one_subnet (active_address p) (active_address q)

-- adjacent interfaces, the first on an earlier router
abbrev pub are_adjacent : Place Interface → Place Interface → Bool
are_adjacent p q = nat_lt p.router q.router && share_area_subnet p q

-- the AS number of the router's BGP process
abbrev pub has_number : Router → ℕ → Bool
has_number router number = option_map_or (λ (process : BgpProcess). nat_eq process.number number) router.bgp false

-- the up addresses of a router that equal `addr`
abbrev pub up_addresses_at : Router → ℕ → List Address
up_addresses_at router addr = filter (λ (a : Address). nat_eq a.addr addr) (filter_map up_address router.interfaces)

-- some up interfaces of two routers with those addresses have one subnet
abbrev pub share_subnet : Router → ℕ → Router → ℕ → Bool
share_subnet u at_u v at_v = list_any (λ (a : Address). list_any (same_subnet a) (up_addresses_at v at_v)) (up_addresses_at u at_u)

-- each of two neighbour lines of two routers names the other router's number and an up interface of
-- it, both interfaces have one subnet, and neither neighbour is shut down
abbrev pub are_peers : Place Neighbor → Place Neighbor → Bool
are_peers p q =
    not (nat_eq p.router q.router) && (not p.value.shut && (not q.value.shut
    && (has_number q.owner p.value.remote && (has_number p.owner q.value.remote && share_subnet p.owner q.value.addr q.owner p.value.addr))))

-- a session, the first of its ends on an earlier router
abbrev pub is_session : Place Neighbor → Place Neighbor → Bool
is_session p q = nat_lt p.router q.router && are_peers p q

unfoldable pub sessions_of : Network → List Link
sessions_of n = links_joining is_session (places neighbors_of n)

unfoldable pub adjacencies_of : Network → List Link
adjacencies_of n = links_joining are_adjacent (places interfaces_of n)

-- the links of a network are its BGP sessions and its OSPF adjacencies
unfoldable pub links_of : Network → List Link
links_of n = sessions_of n ++ adjacencies_of n

abbrev pub unmatched_at : Place Neighbor → Unmatched
unmatched_at p = record { router = p.router; addr = p.value.addr }

-- the neighbours that are part of no session
unfoldable pub unmatched_of : Network → List Unmatched
unmatched_of n = map unmatched_at (filter (λ p. not (list_any (are_peers p) (places neighbors_of n))) (places neighbors_of n))
