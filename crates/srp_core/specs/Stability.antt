-- Labels of a problem, the routes that a router may take (RFC 4271 section 9.1.2 for the loop check),
-- and the labels that no router wants to change.
use Rattle.std.specs.Prelude.{◌≡◌, ◌≢◌, ℕ, ◌<◌, false, List, length, Option, Some, None, slice_index_or, Contains}
use Rattle.std.specs.declared.cmp.Ordering.TheVariants.{Less}
use Rattle.base_kit.specs.declared.act_graph.Edge.{Edge}
use Rattle.srp_core.specs.declared.route.Route.{Route}
use Rattle.srp_core.specs.Routes.{path_of, is_on, IsRouteOf, compare_keys}
use Rattle.srp_core.specs.Problem.{Problem, count, number, initial, step_over, key_of}

-- the label of a router
abbrev pub label : List (Option Route) → ℕ → Option Route
label labels router = slice_index_or labels router None

-- one label for each router, a route of the protocol or none
pub record AreLabels (problem : Problem) (labels : List (Option Route)) : Type 0 where
  pub total : length labels ≡ count problem
  pub routes : (u : ℕ) (r : Route) → label labels u ≡ Some r → IsRouteOf problem.protocol r

-- the edge gives its importer this route: its exporter has a label, of which the edge makes the
-- route, and the importer's own number is not on its path
pub record IsCandidateOver (problem : Problem) (labels : List (Option Route)) (edge : Edge) (route : Route) : Type 0 where
  pub from : Route
  pub labelled : label labels edge.exporter ≡ Some from
  pub stepped : step_over problem edge from ≡ Some route
  pub passes : is_on (number problem edge.importer) (path_of route) ≡ false

-- a route that the router may take: its initial route, or one that an edge gives it
pub data IsCandidate (problem : Problem) (labels : List (Option Route)) (router : ℕ) (route : Route) : Type 0 where
  of_init : initial problem router ≡ Some route → IsCandidate problem labels router route
  of_edge : (edge : Edge) → Contains problem.edges edge → edge.importer ≡ router → IsCandidateOver problem labels edge route →
      IsCandidate problem labels router route

-- a router without candidates has no label, and each other holds a candidate that none beats
pub record IsStable (problem : Problem) (labels : List (Option Route)) : Type 0 where
  pub fitting : AreLabels problem labels
  pub none : (u : ℕ) (c : Route) → u < count problem → label labels u ≡ None → ¬ IsCandidate problem labels u c
  pub held : (u : ℕ) (r : Route) → u < count problem → label labels u ≡ Some r → IsCandidate problem labels u r
  pub best : (u : ℕ) (r c : Route) → u < count problem → label labels u ≡ Some r → IsCandidate problem labels u c →
      compare_keys (key_of problem c) (key_of problem r) ≢ Less

-- the router forwards to the exporter of each of its edges whose candidate ties with its label
pub record ForwardsTo (problem : Problem) (labels : List (Option Route)) (router next : ℕ) : Type 0 where
  pub route : Route
  pub labelled : label labels router ≡ Some route
  pub edge : Edge
  pub edge_in : Contains problem.edges edge
  pub importer : edge.importer ≡ router
  pub exporter : edge.exporter ≡ next
  pub candidate : Route
  pub over : IsCandidateOver problem labels edge candidate
  pub same : key_of problem candidate ≡ key_of problem route

-- both none, or routes of equal keys
pub data HaveSameKeys (first second : Problem) (a b : Option Route) : Type 0 where
  both_none : a ≡ None → b ≡ None → HaveSameKeys first second a b
  both_some : (r s : Route) → a ≡ Some r → b ≡ Some s → key_of first r ≡ key_of second s → HaveSameKeys first second a b
