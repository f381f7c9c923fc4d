-- What holds of every network that some text gives.
use Rattle.std.specs.Prelude.{◌≡◌, ℕ, ◌<◌, ◌≤◌, ◌⊎◌, Bool, not, List, [], ◌∷◌, Option, Contains, IfSome, length, map, filter, filter_map, flat_map}
use Rattle.std.specs.Option.{option_map, option_map_or}
use Rattle.std.specs.List.{AllByRecursion, list_any}
use Rattle.base_kit.specs.Sets.{IsAscending}
use Rattle.cfg_ast.specs.declared.bgp.Neighbor.{Neighbor}
use Rattle.cfg_ast.specs.declared.interface.Interface.{Interface}
use Rattle.cfg_ast.specs.declared.network.Network.{Network}
use Rattle.cfg_ast.specs.declared.network.Router.{Router}
use Rattle.cfg_ast.specs.declared.topology.Link.{Link}
use Rattle.cfg_ast.specs.meaning.Addresses.{Address}
use Rattle.cfg_ast.specs.text.Reading.{IsGiven}
use Rattle.cfg_ast.specs.meaning.Topology.{cost_of_interface, Place, places, interfaces_of, neighbors_of, links_joining, link_between, is_session, are_adjacent, are_peers, unmatched_at, unmatched_of}
use Rattle.cfg_ast.specs.printing.WellFormed.{IsWellFormed, IsWellFormedRouter}

-- It is as the grammar has it.
abbrev pub GivenIsWellFormed : Type 0
GivenIsWellFormed = (network : Network) → ∥ IsGiven network ∥₁ → IsWellFormed network

-- The same of each of its routers.
abbrev pub GivenRoutersAreWellFormed : Type 0
GivenRoutersAreWellFormed = (network : Network) → ∥ IsGiven network ∥₁ → (router : Router) → Contains network.routers router → IsWellFormedRouter router

-- The cost of an interface, given or by its type, is at least 1.
abbrev pub GivenCostsArePositive : Type 0
GivenCostsArePositive =
    (network : Network) → ∥ IsGiven network ∥₁ → (router : Router) → Contains network.routers router → (x : Interface) → Contains router.interfaces x →
    IfSome (cost_of_interface x) (λ cost. 1 ≤ cost)

-- ---- places

-- the `interface`, the `remote-as` and the `ip address` line of a place
abbrev pub interface_line : Place Interface → ℕ
interface_line p = p.value.line

abbrev pub neighbor_line_at : Place Neighbor → ℕ
neighbor_line_at p = p.value.line

abbrev pub address_line_of : Interface → Option ℕ
address_line_of i = option_map (λ (a : Address). a.line) i.address

abbrev pub given_address_line : Place Interface → Option ℕ
given_address_line p = address_line_of p.value

-- Interfaces, their addresses and neighbours are few, and the order of their places is the order of
-- their lines.
pub record PlacesAreInOrder (network : Network) : Type 0 where
  pub interfaces : IsAscending (map interface_line (places interfaces_of network))
  pub addresses : IsAscending (filter_map given_address_line (places interfaces_of network))
  pub neighbors : IsAscending (map neighbor_line_at (places neighbors_of network))
  pub few_interfaces : length (places interfaces_of network) ≤ 1000000
  pub few_neighbors : length (places neighbors_of network) ≤ 1000000

abbrev pub GivenPlacesAreInOrder : Type 0
GivenPlacesAreInOrder = (network : Network) → ∥ IsGiven network ∥₁ → PlacesAreInOrder network

-- ---- links

abbrev pub Ends : Type 0 → Type 0
Ends X = Place X × Place X

abbrev pub ends_from : {X : Type 0} → (Place X → Place X → Bool) → List (Place X) → Place X → List (Ends X)
ends_from joins ps p = map (λ q. (p, q)) (filter (joins p) ps)

-- both ends of the links between places that are joined
abbrev pub ends_joining : {X : Type 0} → (Place X → Place X → Bool) → List (Place X) → List (Ends X)
ends_joining joins ps = flat_map (ends_from joins ps) ps

abbrev pub link_of_ends : {X : Type 0} → Ends X → Link
link_of_ends e = link_between e.0 e.1

-- a pair of lines is before another by its first line, and then by its second
abbrev pub IsPairBefore : ℕ × ℕ → ℕ × ℕ → Type 0
IsPairBefore p q = (p.0 < q.0) ⊎ ((p.0 ≡ q.0) × (p.1 < q.1))

-- each pair is before all later ones
abbrev pub ArePairsAscending : List (ℕ × ℕ) → Type 0
ArePairsAscending [] = Unit {0}
ArePairsAscending (p ∷ ps) = AllByRecursion (IsPairBefore p) ps × ArePairsAscending ps

-- the line of the first end is the lesser
abbrev pub IsLesserFirst : {X : Type 0} → (Place X → ℕ) → Ends X → Type 0
IsLesserFirst line e = line e.0 < line e.1

-- the links stand by the pairs of the lines of their ends, the lesser line first
pub record AreByLines {X : Type 0} (joins : Place X → Place X → Bool) (line : Place X → ℕ) (ps : List (Place X)) : Type 0 where
  pub ends : links_joining joins ps ≡ map link_of_ends (ends_joining joins ps)
  pub ascending : ArePairsAscending (map (λ (e : Ends X). (line e.0, line e.1)) (ends_joining joins ps))
  pub lesser_first : AllByRecursion (IsLesserFirst line) (ends_joining joins ps)

-- the line of the address, 0 without one
abbrev pub address_line_at : Place Interface → ℕ
address_line_at p = option_map_or (λ (a : Address). a.line) p.value.address 0

-- the places of the neighbours that are part of no session
abbrev pub unmatched_places : Network → List (Place Neighbor)
unmatched_places n = filter (λ p. not (list_any (are_peers p) (places neighbors_of n))) (places neighbors_of n)

-- Sessions ascend by the pairs of their `remote-as` lines, and adjacencies by those of their `ip address` lines, the lesser line
-- of each pair first. Unmatched neighbours ascend by their `remote-as` lines.
pub record LinksAreInOrder (network : Network) : Type 0 where
  pub sessions : AreByLines is_session neighbor_line_at (places neighbors_of network)
  pub adjacencies : AreByLines are_adjacent address_line_at (places interfaces_of network)
  pub unmatched : unmatched_of network ≡ map unmatched_at (unmatched_places network)
  pub unmatched_ascending : IsAscending (map neighbor_line_at (unmatched_places network))

abbrev pub GivenLinksAreInOrder : Type 0
GivenLinksAreInOrder = (network : Network) → ∥ IsGiven network ∥₁ → LinksAreInOrder network
