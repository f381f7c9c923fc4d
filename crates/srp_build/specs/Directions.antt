-- What is alike for all classes of a network: the directions of its links.
use Rattle.std.specs.Prelude.{◌≡◌, ◌<◌, ◌^◌, true, false, List, length}
use Rattle.cfg_ast.specs.declared.network.Network.{Network}
use Rattle.cfg_ast.specs.declared.network.Router.{Router}
use Rattle.cfg_ast.specs.meaning.RouterFaults.{protocol_of}
use Rattle.cfg_ast.specs.meaning.Topology.{links_of}
use Rattle.srp_build.specs.declared.costs.Numbered.{Numbered}
use Rattle.srp_build.specs.declared.directions.Directions.{Directions}
use Rattle.srp_build.specs.declared.directions.Directions.TheVariants.{OfSessions, OfAdjacencies}
use Rattle.srp_build.specs.declared.hops.Hop.{Hop}
use Rattle.srp_build.specs.declared.session_hops.SessionHops.{SessionHops}
use Rattle.srp_build.specs.Costs.{NumbersHops}
use Rattle.srp_build.specs.Hops.{hops_of, sorted_by_ends}
use Rattle.srp_build.specs.LinePolicies.{AreLinePolicies, AreImportsOf}
use Rattle.srp_build.specs.ListPlaces.{HavePlaces}
use Rattle.srp_build.specs.Problem.{is_bgp}

-- both directions of each link, by importer, then exporter, then link
abbrev pub directions_of : Network → List Hop
directions_of n = sorted_by_ends (length n.routers) (hops_of (links_of n))

-- the directions, the places of the routers' lists and maps, the policies of their lines, and the imports
-- of the directions
pub record AreSessionHops (routers : List Router) (hops : List Hop) (found : SessionHops) : Type 0 where
  pub hops_are : found.hops.items ≡ hops
  pub places : HavePlaces routers found.places.items
  pub policies : AreLinePolicies routers found.policies
  pub imports : AreImportsOf routers found.policies hops found.imports.items

-- the directions of a BGP network
pub record AreOfSessions (n : Network) (found : SessionHops) : Type 0 where
  pub bgp : is_bgp (protocol_of n) ≡ true
  pub hops : AreSessionHops n.routers (directions_of n) found
  pub few : length (directions_of n) < 2 ^ 32

-- the edges and the costs of the directions of any other network
pub record AreOfAdjacencies (n : Network) (numbered : Numbered) : Type 0 where
  pub not_bgp : is_bgp (protocol_of n) ≡ false
  pub numbers : NumbersHops n.routers numbered.costs (directions_of n) numbered.edges
  pub few : length (directions_of n) < 2 ^ 32

abbrev pub AreDirectionsOf : Network → Directions → Type 0
AreDirectionsOf n (OfSessions found) = AreOfSessions n found
AreDirectionsOf n (OfAdjacencies numbered) = AreOfAdjacencies n numbered
