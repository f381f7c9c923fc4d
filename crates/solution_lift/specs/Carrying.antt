-- How labels of one problem are carried to another, router by router in the order of the sizes of the
-- labels asked for. A router of the target asks for the label that the other problem has at its place in
-- a list.
use Rattle.std.specs.Prelude.{◌≡◌, ◌≢◌, ℕ, ◌<◌, ◌≤◌, List, Option, Some, None, length, nat_eq, slice_get, slice_index, option_and_then, Contains}
use Rattle.std.specs.Option.{option_map}
use Rattle.std.specs.HashMap as map
use Rattle.std.specs.HashMap.{HashMap}
use Rattle.std.specs.declared.hash.FoldHasher.{FoldHasher}
use Rattle.std.specs.declared.hash.BuildHasherDefault.{BuildHasherDefault}
use Rattle.base_kit.specs.declared.act_graph.Edge.{Edge}
use Rattle.srp_core.specs.declared.route.Route.{Route}
use Rattle.srp_core.specs.Routes.{Key, path_of, size_of}
use Rattle.srp_core.specs.Problem.{Problem, initial, key_of}
use Rattle.srp_core.specs.Stability.{label, IsCandidateOver}
use Rattle.solution_lift.specs.declared.tasks.Task.{Task}

-- the router takes the route of that key over an edge from that side, its least exporter there
pub record Takes (problem : Problem) (sides : List ℕ) (labels : List (Option Route)) (router source : ℕ) (key : Key) (route : Route) : Type 0 where
  pub edge : Edge
  pub edge_in : Contains problem.edges edge
  pub importer : edge.importer ≡ router
  pub exporter : slice_index sides edge.exporter ≡ source
  pub over : IsCandidateOver problem labels edge route
  pub keyed : key_of problem route ≡ key
  pub least : (other : Edge) (candidate : Route) → Contains problem.edges other → other.importer ≡ router → slice_index sides other.exporter ≡ source →
      IsCandidateOver problem labels other candidate → key_of problem candidate ≡ key → edge.exporter ≤ other.exporter

-- no edge from that side gives the router a route of that key
pub record TakesNone (problem : Problem) (sides : List ℕ) (labels : List (Option Route)) (router source : ℕ) (key : Key) : Type 0 where
  pub none : (edge : Edge) (candidate : Route) → Contains problem.edges edge → edge.importer ≡ router → slice_index sides edge.exporter ≡ source →
      IsCandidateOver problem labels edge candidate → key_of problem candidate ≢ key

abbrev pub IsTakenOver : Problem → List ℕ → List (Option Route) → ℕ → ℕ → Key → Option Route → Type 0
IsTakenOver problem sides labels router source key None = TakesNone problem sides labels router source key
IsTakenOver problem sides labels router source key (Some route) = Takes problem sides labels router source key route

-- the sides of AS numbers
abbrev pub Sources : Type 0
Sources = HashMap ℕ ℕ (BuildHasherDefault FoldHasher)

-- the side of the number that is first on the route's path
abbrev pub source_of : Sources → Route → Option ℕ
source_of sources route = option_and_then (map.get nat_eq sources) (slice_get (path_of route) 0)

-- what the router gets: its initial route, or what it takes from the source of the label asked for
pub record GetsRoute (problem : Problem) (asked : List (Option Route)) (at sides : List ℕ) (sources : Sources) (labels : List (Option Route)) (router : ℕ)
    (next : Option Route) : Type 0 where
  pub started : (i : Route) → initial problem router ≡ Some i → next ≡ Some i
  pub taken : (wanted : Route) (source : ℕ) → initial problem router ≡ None → label asked (slice_index at router) ≡ Some wanted →
      source_of sources wanted ≡ Some source → IsTakenOver problem sides labels router source (key_of problem wanted) next

abbrev pub task_of : ℕ → Route → Task
task_of router route = record { place = router; size = size_of route }

-- the task of a router that asks for a label
abbrev pub task_at : List (Option Route) → List ℕ → ℕ → Option Task
task_at asked at router = option_map (task_of router) (label asked (slice_index at router))

abbrev pub size_key : Task → ℕ
size_key task = task.size

-- a task for each router that asks for a label, by ascending size
pub record IsOrder (asked : List (Option Route)) (at : List ℕ) (tasks : List Task) : Type 0 where
  pub each : (k : ℕ) (task : Task) → slice_get tasks k ≡ Some task → (task.place < length at) × (task_at asked at task.place ≡ Some task)
  pub all : (router : ℕ) (task : Task) → router < length at → task_at asked at router ≡ Some task → (k : ℕ) × (slice_get tasks k ≡ Some task)
  pub rising : (i j : ℕ) (a b : Task) → i < j → slice_get tasks i ≡ Some a → slice_get tasks j ≡ Some b → a.size ≤ b.size
  pub once : (i j : ℕ) (a b : Task) → slice_get tasks i ≡ Some a → slice_get tasks j ≡ Some b → a.place ≡ b.place → i ≡ j
