-- The candidates of a router as a list: its initial route, then one for each edge that gives it a route.
use Rattle.std.specs.Prelude.{◌≡◌, ◌≢◌, Contains, ℕ, ◌+◌, List, [], ◌∷◌, ◌++◌, Option, Some, None, nat_eq, option_and_then, if◌then◌else◌, ◌≤◌, ◌<◌, length}
use Rattle.std.specs.List.{AllWithin}
use Rattle.std.specs.declared.cmp.Ordering.TheVariants.{Less}
use Rattle.base_kit.specs.declared.act_graph.Edge.{Edge}
use Rattle.srp_core.specs.declared.route.Route.{Route}
use Rattle.srp_core.specs.declared.route.Candidate.{Candidate}
use Rattle.srp_core.specs.Routes.{path_of, is_on, compare_keys}
use Rattle.srp_core.specs.Problem.{Problem, number, initial, step_over, key_of}
use Rattle.srp_core.specs.Stability.{label}

-- the route, unless the router's own number is on its path
abbrev pub passed : ℕ → Route → Option Route
passed own route = if is_on own (path_of route) then None else Some route

-- the route that the edge gives its importer
abbrev pub over : Problem → List (Option Route) → Edge → Option Route
over problem labels edge = option_and_then (λ from. option_and_then (passed (number problem edge.importer)) (step_over problem edge from))
    (label labels edge.exporter)

-- a route as one candidate, none as none
abbrev pub candidate_of : Option ℕ → Option Route → List Candidate
candidate_of place None = []
candidate_of place (Some route) = (record { edge = place; route = route }) ∷ []

-- the candidates over the router's edges, the first of which stands at `place`
unfoldable pub over_edges : Problem → List (Option Route) → ℕ → ℕ → List Edge → List Candidate
over_edges problem labels router place [] = []
over_edges problem labels router place (edge ∷ edges) = (if nat_eq edge.importer router then candidate_of (Some place) (over problem labels edge) else [])
    ++ over_edges problem labels router (place + 1) edges

-- all candidates of the router
unfoldable pub candidates : Problem → List (Option Route) → ℕ → List Candidate
candidates problem labels router = candidate_of None (initial problem router) ++ over_edges problem labels router 0 problem.edges

-- the router has no candidate and no label, or holds one of its candidates, and none beats it
pub record IsSettled (problem : Problem) (labels : List (Option Route)) (router : ℕ) : Type 0 where
  pub none : label labels router ≡ None → candidates problem labels router ≡ []
  pub held : (r : Route) → label labels router ≡ Some r → (k : Candidate) × Contains (candidates problem labels router) k × (k.route ≡ r)
  pub best : (r : Route) (k : Candidate) → label labels router ≡ Some r → Contains (candidates problem labels router) k →
      compare_keys (key_of problem k.route) (key_of problem r) ≢ Less

-- the edges of a router stand together, from `first` up to `end`
pub record AreOwnEdges (edges : List Edge) (router first end : ℕ) : Type 0 where
  pub forward : first ≤ end
  pub inside : end ≤ length edges
  pub before : AllWithin (λ edge. edge.importer < router) edges 0 first
  pub own : AllWithin (λ edge. edge.importer ≡ router) edges first end
  pub behind : AllWithin (λ edge. router < edge.importer) edges end (length edges)
