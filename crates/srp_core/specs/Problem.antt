-- The stable routing problem of a destination (Beckett, Gupta, Mahajan and Walker, Control Plane
-- Compression, SIGCOMM 2018, section 3).
use Rattle.std.specs.Prelude.{◌≡◌, ◌≢◌, ℕ, ◌^◌, ◌<◌, ◌⊎◌, Bool, true, false, ◌||◌, ◌&&◌, All, List, [], ◌∷◌, length, Option, Some, None, nat_eq, slice_index, slice_index_or, Contains}
use Rattle.base_kit.specs.declared.protocol.Protocol.{Protocol}
use Rattle.base_kit.specs.declared.protocol.Protocol.TheVariants.{Bgp as OverBgp}
use Rattle.base_kit.specs.declared.act_graph.Edge.{Edge}
use Rattle.base_kit.specs.Sets.{IsAscending}
use Rattle.route_maps.specs.declared.plain.Imported.{Imported}
use Rattle.srp_core.specs.declared.route.Route.{Route}
use Rattle.srp_core.specs.declared.route.Act.{Act}
use Rattle.srp_core.specs.declared.route.Act.TheVariants.{Cost}
use Rattle.srp_core.specs.Routes.{path_of, comms_of, IsRouteOf, Key, key_by}
use Rattle.srp_core.specs.Acts.{import_by, ActsAlike, KeepsSets, IsActOf, step_by}

-- routers by place: their names, AS numbers (0 without BGP), initial routes and marks; and the edges,
-- each with the place of its act
pub record Problem : Type 0 where
  pub protocol : Protocol
  pub names : List (List ℕ)
  pub numbers : List ℕ
  pub init : List (Option Route)
  pub lone : List Bool
  pub acts : List Act
  pub edges : List Edge

-- the problem with these initial routes in place of its own
abbrev pub with_init : Problem → List (Option Route) → Problem
with_init problem init = record {
  protocol = problem.protocol;
  names = problem.names;
  numbers = problem.numbers;
  init = init;
  lone = problem.lone;
  acts = problem.acts;
  edges = problem.edges;
}

-- how many routers there are
abbrev pub count : Problem → ℕ
count problem = length problem.numbers

-- the AS number of a router
abbrev pub number : Problem → ℕ → ℕ
number problem router = slice_index problem.numbers router

-- the initial route of a router, if it originates
abbrev pub initial : Problem → ℕ → Option Route
initial problem router = slice_index_or problem.init router None

-- whether the router is marked as lone
abbrev pub is_lone : Problem → ℕ → Bool
is_lone problem router = slice_index_or problem.lone router false

-- the act of an edge
abbrev pub act_of : Problem → Edge → Act
act_of problem edge = slice_index_or problem.acts edge.act (Cost 0)

-- what an edge makes of its exporter's route, before the loop check
abbrev pub step_over : Problem → Edge → Route → Option Route
step_over problem edge route = step_by (act_of problem edge) (number problem edge.exporter) route

-- some router of that number is marked
unfoldable pub has_marked_number : List Bool → List ℕ → ℕ → Bool
has_marked_number [] numbers wanted = false
has_marked_number (mark ∷ marks) [] wanted = false
has_marked_number (mark ∷ marks) (number ∷ numbers) wanted = (mark && nat_eq number wanted) || has_marked_number marks numbers wanted

-- whether a lone router has that number
abbrev pub is_lone_number : Problem → ℕ → Bool
is_lone_number problem wanted = has_marked_number problem.lone problem.numbers wanted

-- the key of a route of the problem
abbrev pub key_of : Problem → Route → Key
key_of problem route = key_by (is_lone_number problem) route

-- the router accepts some set of communities, over one of its edges, with that preference
pub record Accepts (problem : Problem) (router preference : ℕ) : Type 0 where
  pub edge : Edge
  pub edge_in : Contains problem.edges edge
  pub importer : edge.importer ≡ router
  pub comms : List ℕ
  pub is_set : IsAscending comms
  pub imported : Imported
  pub accepted : import_by (act_of problem edge) comms ≡ Some imported
  pub preferred : imported.lp ≡ preference

-- a router that does not originate, and that accepts with two different preferences
pub record IsLone (problem : Problem) (router : ℕ) : Type 0 where
  pub unoriginated : initial problem router ≡ None
  pub first : ℕ
  pub second : ℕ
  pub first_accepted : Accepts problem router first
  pub second_accepted : Accepts problem router second
  pub differ : first ≢ second

-- two different routers and an act of the table
pub record IsEdgeOf (problem : Problem) (edge : Edge) : Type 0 where
  pub importer_in : edge.importer < count problem
  pub exporter_in : edge.exporter < count problem
  pub differ : edge.importer ≢ edge.exporter
  pub act_in : edge.act < length problem.acts

-- an edge stands before another by importer, then exporter, then link
abbrev pub Precedes : Edge → Edge → Type 0
Precedes first second = (first.importer < second.importer)
    ⊎ ((first.importer ≡ second.importer) × ((first.exporter < second.exporter) ⊎ ((first.exporter ≡ second.exporter) × (first.link < second.link))))

-- each edge stands before all later ones
abbrev pub AreOrdered : List Edge → Type 0
AreOrdered [] = Unit {0}
AreOrdered (edge ∷ edges) = All (Precedes edge) edges × AreOrdered edges

-- few routers and edges; a name, an initial route or none, and a mark for each router
pub record HasTables (problem : Problem) : Type 0 where
  pub few_routers : count problem < 2 ^ 32
  pub few_edges : length problem.edges < 2 ^ 32
  pub names : length problem.names ≡ count problem
  pub init : length problem.init ≡ count problem
  pub lone : length problem.lone ≡ count problem

-- edges stand in order, and of the edges of a link at most one leads to each end
pub record HasEdges (problem : Problem) : Type 0 where
  pub inside : (edge : Edge) → Contains problem.edges edge → IsEdgeOf problem edge
  pub ordered : AreOrdered problem.edges
  pub one_of_link : (edge other : Edge) → Contains problem.edges edge → Contains problem.edges other → edge.importer ≡ other.importer → edge.link ≡ other.link →
      edge ≡ other

-- acts are of the protocol, and no two of them act alike
pub record HasActs (problem : Problem) : Type 0 where
  pub fit : All (IsActOf problem.protocol) problem.acts
  pub keep : All KeepsSets problem.acts
  pub differ : (i j : ℕ) → i < length problem.acts → j < length problem.acts →
      ActsAlike (slice_index_or problem.acts i (Cost 0)) (slice_index_or problem.acts j (Cost 0)) → i ≡ j

-- initial routes are of the protocol, have no path and no communities; in BGP no router that has one imports
pub record HasStarts (problem : Problem) : Type 0 where
  pub routes : (u : ℕ) (r : Route) → initial problem u ≡ Some r → IsRouteOf problem.protocol r
  pub paths : (u : ℕ) (r : Route) → initial problem u ≡ Some r → path_of r ≡ []
  pub bare : (u : ℕ) (r : Route) → initial problem u ≡ Some r → comms_of r ≡ []
  pub unoriginated : problem.protocol ≡ OverBgp → (edge : Edge) → Contains problem.edges edge → initial problem edge.importer ≡ None

-- in BGP each router that originates, imports or exports has an AS number of its own
pub record HasAsNumbers (problem : Problem) : Type 0 where
  pub originators : (u : ℕ) (r : Route) → initial problem u ≡ Some r → number problem u ≢ 0
  pub importers : (edge : Edge) → Contains problem.edges edge → number problem edge.importer ≢ 0
  pub exporters : (edge : Edge) → Contains problem.edges edge → number problem edge.exporter ≢ 0
  pub distinct : (u v : ℕ) → u < count problem → v < count problem → number problem u ≡ number problem v → number problem u ≢ 0 → u ≡ v

-- the lone routers are marked, and no others
pub record HasMarks (problem : Problem) : Type 0 where
  pub only : (u : ℕ) → u < count problem → is_lone problem u ≡ true → IsLone problem u
  pub all : (u : ℕ) → u < count problem → IsLone problem u → is_lone problem u ≡ true

-- the rules of a problem
pub record IsProblem (problem : Problem) : Type 0 where
  pub tables : HasTables problem
  pub edges : HasEdges problem
  pub acts : HasActs problem
  pub starts : HasStarts problem
  pub numbers : problem.protocol ≡ OverBgp → HasAsNumbers problem
  pub marks : HasMarks problem
