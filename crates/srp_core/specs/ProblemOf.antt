-- The problem of a network and a prefix: what its routers originate, and which of its links carry
-- routes (RFC 4271 section 9.1 for what a session imports; RFC 2328 for the costs of adjacencies).
use Rattle.std.specs.Prelude.{◌≡◌, ℕ, ◌⊎◌, Bool, List, [], map, Option, Some, None, slice_get, Contains}
use Rattle.std.specs.Option.{option_map, option_map_or}
use Rattle.base_kit.specs.declared.protocol.Protocol.{Protocol}
use Rattle.base_kit.specs.declared.protocol.Protocol.TheVariants.{Bgp as OverBgp, Ospf as OverOspf}
use Rattle.base_kit.specs.declared.act_graph.Edge.{Edge}
use Rattle.base_kit.specs.Prefixes.{Prefix}
use Rattle.base_kit.specs.Sets.{IsAscending}
use Rattle.cfg_ast.specs.declared.bgp.BgpProcess.{BgpProcess}
use Rattle.cfg_ast.specs.declared.bgp.Neighbor.{Neighbor}
use Rattle.cfg_ast.specs.declared.network.Network.{Network}
use Rattle.cfg_ast.specs.declared.network.Router.{Router}
use Rattle.cfg_ast.specs.declared.topology.Link.{Link}
use Rattle.cfg_ast.specs.meaning.Classes.{initial_route}
use Rattle.cfg_ast.specs.meaning.Policy.{default_preference}
use Rattle.cfg_ast.specs.meaning.RouterFaults.{protocol_of}
use Rattle.cfg_ast.specs.meaning.Topology.{links_of, neighbors_of, cost_of}
use Rattle.route_maps.specs.declared.plain.Imported.{Imported}
use Rattle.route_maps.specs.declared.plain.Plain.{Plain}
use Rattle.route_maps.specs.Maps.{import_of}
use Rattle.route_maps.specs.Sessions.{session_import}
use Rattle.srp_core.specs.declared.route.Route.{Route}
use Rattle.srp_core.specs.declared.route.Route.TheVariants.{Bgp, Ospf}
use Rattle.srp_core.specs.declared.route.Act.{Act}
use Rattle.srp_core.specs.declared.route.Act.TheVariants.{Import, Cost}
use Rattle.srp_core.specs.Problem.{Problem, act_of, IsProblem}

-- the AS number of the router's BGP process, 0 without one
abbrev pub as_number_of : Router → ℕ
as_number_of router = option_map_or (λ (process : BgpProcess). process.number) router.bgp 0

-- in BGP the default preference, an empty path and no communities; in OSPF the cost
abbrev pub route_from : Router → Option ℕ → Route
route_from router None = Bgp (default_preference router) [] []
route_from router (Some cost) = Ospf cost

-- the router's initial route to the prefix, if it originates the prefix
abbrev pub start_route : Prefix → Router → Option Route
start_route prefix router = option_map (route_from router) (initial_route router prefix)

-- a link, seen from one of its ends
pub record Direction : Type 0 where
  pub link : ℕ
  pub importer : ℕ
  pub exporter : ℕ
  pub importer_item : ℕ
  pub exporter_item : ℕ

abbrev pub low_imports : Direction → Link
low_imports d = record { low = d.importer; high = d.exporter; low_item = d.importer_item; high_item = d.exporter_item }

abbrev pub high_imports : Direction → Link
high_imports d = record { low = d.exporter; high = d.importer; low_item = d.exporter_item; high_item = d.importer_item }

-- one of the two directions of a link of the network
abbrev pub IsDirection : Network → Direction → Type 0
IsDirection network d = (slice_get (links_of network) d.link ≡ Some (low_imports d)) ⊎ (slice_get (links_of network) d.link ≡ Some (high_imports d))

-- the routers and the neighbour lines at both ends of a session
pub record SessionEnds (network : Network) (d : Direction) : Type 0 where
  pub exporter : Router
  pub exporter_at : slice_get network.routers d.exporter ≡ Some exporter
  pub exporter_line : Neighbor
  pub exporter_line_at : slice_get (neighbors_of exporter) d.exporter_item ≡ Some exporter_line
  pub importer : Router
  pub importer_at : slice_get network.routers d.importer ≡ Some importer
  pub importer_line : Neighbor
  pub importer_line_at : slice_get (neighbors_of importer) d.importer_item ≡ Some importer_line

-- the importer does not originate the prefix, and imports some set of communities
pub record CarriesRoutes (network : Network) (prefix : Prefix) (d : Direction) : Type 0 where
  pub ends : SessionEnds network d
  pub unoriginated : start_route prefix ends.importer ≡ None
  pub comms : List ℕ
  pub is_set : IsAscending comms
  pub imported : Imported
  pub accepted : session_import prefix ends.exporter ends.exporter_line ends.importer ends.importer_line comms ≡ Some imported

-- in OSPF each direction of an adjacency carries routes
abbrev pub IsEdgeDirection : Protocol → Network → Prefix → Direction → Type 0
IsEdgeDirection OverBgp network prefix d = CarriesRoutes network prefix d
IsEdgeDirection OverOspf network prefix d = Unit {0}

-- the maps import every set of communities as the session does
pub record MeansSession (network : Network) (prefix : Prefix) (d : Direction) (out : Plain) (sends : Bool) (into : Plain) : Type 0 where
  pub ends : SessionEnds network d
  pub same : (comms : List ℕ) → IsAscending comms →
      import_of out sends into comms ≡ session_import prefix ends.exporter ends.exporter_line ends.importer ends.importer_line comms

-- the cost is that of the importer's interface
pub record MeansCost (network : Network) (d : Direction) (cost : ℕ) : Type 0 where
  pub importer : Router
  pub importer_at : slice_get network.routers d.importer ≡ Some importer
  pub same : cost_of importer d.importer_item ≡ Some cost

-- the act does what the direction of the link does
abbrev pub MeansLink : Network → Prefix → Direction → Act → Type 0
MeansLink network prefix d (Import out sends into) = MeansSession network prefix d out sends into
MeansLink network prefix d (Cost cost) = MeansCost network d cost

-- the edge stands for the direction of a link
pub record StandsFor (problem : Problem) (network : Network) (prefix : Prefix) (edge : Edge) (d : Direction) : Type 0 where
  pub is_direction : IsDirection network d
  pub is_edge : IsEdgeDirection problem.protocol network prefix d
  pub link : edge.link ≡ d.link
  pub importer : edge.importer ≡ d.importer
  pub exporter : edge.exporter ≡ d.exporter
  pub means : MeansLink network prefix d (act_of problem edge)

-- The problem of a network and a prefix. Its edges are exactly the directions of links that carry
-- routes. Each has an act that does what the direction does; which of several acts that act alike it has
-- is free. Its rules say which routers are lone.
pub record IsProblemOf (network : Network) (prefix : Prefix) (problem : Problem) : Type 0 where
  pub rules : IsProblem problem
  pub protocol : protocol_of network ≡ Some problem.protocol
  pub names : problem.names ≡ map (λ (router : Router). router.name) network.routers
  pub numbers : problem.numbers ≡ map as_number_of network.routers
  pub init : problem.init ≡ map (start_route prefix) network.routers
  pub edges_stand : (edge : Edge) → Contains problem.edges edge → (d : Direction) × StandsFor problem network prefix edge d
  pub edges_all : (d : Direction) → IsDirection network d → IsEdgeDirection problem.protocol network prefix d → (edge : Edge) × Contains problem.edges edge
      × StandsFor problem network prefix edge d
