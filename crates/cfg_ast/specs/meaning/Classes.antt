-- The prefixes that routers originate, and the destination classes of a network: prefixes that every
-- router treats alike (Beckett, Gupta, Mahajan and Walker, Control Plane Compression, SIGCOMM 2018).
-- In BGP a router originates what a `network` line names and an up interface has (RFC 4271 section
-- 9.4); in OSPF the subnets of its up interfaces in the area (RFC 2328 section 12.4.1).
use Rattle.std.specs.Prelude.{◌≡◌, ℕ, Bool, true, false, not, ◌&&◌, List, [], ◌∷◌, Option, Some, None, map, filter, filter_map, flat_map, find, nat_eq, nat_lt, is_some, if◌then◌else◌}
use Rattle.std.specs.Option.{option_map, option_map_or, option_eq}
use Rattle.std.specs.List.{enumerate_from, list_any}
use Rattle.std.specs.Bool.{beq}
use Rattle.base_kit.specs.Prefixes.{Prefix, same_prefix}
use Rattle.cfg_ast.specs.declared.bgp.BgpProcess.{BgpProcess}
use Rattle.cfg_ast.specs.declared.bgp.NetLine.{NetLine}
use Rattle.cfg_ast.specs.declared.classes.DestClass.{DestClass}
use Rattle.cfg_ast.specs.declared.classes.Origin.{Origin}
use Rattle.cfg_ast.specs.declared.interface.Interface.{Interface}
use Rattle.cfg_ast.specs.declared.network.Network.{Network}
use Rattle.cfg_ast.specs.declared.network.Router.{Router}
use Rattle.cfg_ast.specs.declared.policy.PrefixList.{PrefixList}
use Rattle.cfg_ast.specs.meaning.PrefixLists.{prefix_list_permits}
use Rattle.cfg_ast.specs.meaning.Topology.{up_address, subnet_of_address, is_in_area_interface, cost_of_interface}

-- prefixes are ordered by address, and then by length
abbrev pub is_before : Prefix → Prefix → Bool
is_before p q = if nat_eq p.addr q.addr then nat_lt p.len q.len else nat_lt p.addr q.addr

-- a prefix put in its place, once
abbrev pub with_prefix : Prefix → List Prefix → List Prefix
with_prefix p [] = p ∷ []
with_prefix p (q ∷ qs) = if is_before p q then p ∷ q ∷ qs else (if same_prefix p q then q ∷ qs else q ∷ with_prefix p qs)

abbrev pub with_prefixes : List Prefix → List Prefix → List Prefix
with_prefixes [] set = set
with_prefixes (p ∷ more) set = with_prefixes more (with_prefix p set)

abbrev pub has_prefix : List Prefix → Prefix → Bool
has_prefix ps p = list_any (same_prefix p) ps

abbrev pub AllAfter : Prefix → List Prefix → Type 0
AllAfter p [] = Unit {0}
AllAfter p (q ∷ qs) = (is_before p q ≡ true) × AllAfter p qs

-- each prefix is before all later ones
abbrev pub AreAscending : List Prefix → Type 0
AreAscending [] = Unit {0}
AreAscending (p ∷ ps) = AllAfter p ps × AreAscending ps

-- the subnet of an up interface
abbrev pub up_subnet : Interface → Option Prefix
up_subnet x = option_map subnet_of_address (up_address x)

-- the interface is up, and its subnet is exactly that prefix
abbrev pub is_up_in : Prefix → Interface → Bool
is_up_in p x = option_map_or (same_prefix p) (up_subnet x) false

-- in BGP: a `network` line has the prefix, and an up interface too
abbrev pub is_announced : Router → BgpProcess → Prefix → Bool
is_announced router process p = list_any (λ (line : NetLine). same_prefix p line.prefix) process.networks && list_any (is_up_in p) router.interfaces

-- in OSPF: the first up interface in the area that has the prefix
abbrev pub area_interface_in : Router → Prefix → Option Interface
area_interface_in router p = find (λ x. is_in_area_interface router x && is_up_in p x) router.interfaces

abbrev pub route_by_process : Router → Option BgpProcess → Prefix → Option (Option ℕ)
route_by_process router (Some process) p = if is_announced router process p then Some None else None
route_by_process router None p = option_map cost_of_interface (area_interface_in router p)

-- The router's initial route to the prefix, if it originates the prefix: in OSPF its cost, and in BGP
-- nothing more, since all else in it is the router's own.
abbrev pub initial_route : Router → Prefix → Option (Option ℕ)
initial_route router p = route_by_process router router.bgp p

-- the subnets of its interfaces that a router originates
abbrev pub originated_by : Router → List Prefix
originated_by router = filter (λ p. is_some (initial_route router p)) (filter_map up_subnet router.interfaces)

-- all originated prefixes, each once, ascending
unfoldable pub originated : Network → List Prefix
originated network = with_prefixes (flat_map originated_by network.routers) []

abbrev pub origin_at : Prefix → ℕ × Router → Option Origin
origin_at p (place, router) = option_map (λ cost. record { router = place; cost = cost }) (initial_route router p)

-- the routers that originate a prefix, in order, with their initial routes
unfoldable pub origins_of : Network → Prefix → List Origin
origins_of network p = filter_map (origin_at p) (enumerate_from 0 network.routers)

abbrev pub lists_on : Router → List PrefixList
lists_on router = router.prefix_lists

-- the answers of all prefix lists of all routers to a prefix
unfoldable pub answers_of : Network → Prefix → List Bool
answers_of network p = map (λ list. prefix_list_permits list p) (flat_map lists_on network.routers)

-- two prefixes have the same originators with the same initial routes, and all lists answer both alike
pub record IsSameClass (network : Network) (p q : Prefix) : Type 0 where
  pub origins : origins_of network p ≡ origins_of network q
  pub answers : answers_of network p ≡ answers_of network q

abbrev pub same_origin : Origin → Origin → Bool
same_origin a b = nat_eq a.router b.router && option_eq nat_eq a.cost b.cost

abbrev pub same_items : {X : Type 0} → (X → X → Bool) → List X → List X → Bool
same_items same [] [] = true
same_items same [] (y ∷ ys) = false
same_items same (x ∷ xs) [] = false
same_items same (x ∷ xs) (y ∷ ys) = same x y && same_items same xs ys

-- whether two prefixes are in one class
unfoldable pub is_same_class : Network → Prefix → Prefix → Bool
is_same_class network p q = same_items same_origin (origins_of network p) (origins_of network q) && same_items beq (answers_of network p) (answers_of network q)

-- no lesser prefix is in the class of this one
abbrev pub is_least : Network → Prefix → Bool
is_least network p = not (list_any (λ q. is_before q p && is_same_class network q p) (originated network))

-- the class of a prefix: all prefixes in it, ascending, and the routers that originate them
abbrev pub class_of : Network → Prefix → DestClass
class_of network p = record { prefixes = filter (is_same_class network p) (originated network); origins = origins_of network p }

-- the classes, by their least prefixes
unfoldable pub classes_of : Network → List DestClass
classes_of network = map (class_of network) (filter (is_least network) (originated network))

-- the two say the same
abbrev pub SameClassIsDecided : Type 0
SameClassIsDecided = (network : Network) (p q : Prefix) → (is_same_class network p q ≡ true → IsSameClass network p q)
    × (IsSameClass network p q → is_same_class network p q ≡ true)

-- a class is that of each of its members
abbrev pub ClassOfEachMember : Type 0
ClassOfEachMember = (network : Network) (p q : Prefix) → IsSameClass network p q → class_of network p ≡ class_of network q

-- the prefixes of a class are different and ascend
abbrev pub ClassAscends : Type 0
ClassAscends = (network : Network) (p : Prefix) → AreAscending (class_of network p).prefixes
