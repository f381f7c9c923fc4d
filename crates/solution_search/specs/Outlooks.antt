-- Tables of what routers may hold.
use Rattle.std.specs.Prelude.{◌≡◌, ℕ, ◌≤◌, Bool, true, ◌&&◌, ◌||◌, All, List, [], length, Option, Some, None, nat_eq, nat_lt, nat_le, slice_index_or, Contains}
use Rattle.base_kit.specs.declared.act_graph.Edge.{Edge}
use Rattle.srp_core.specs.declared.route.Route.{Route}
use Rattle.srp_core.specs.declared.route.Act.{Act}
use Rattle.srp_core.specs.declared.route.Act.TheVariants.{Cost}
use Rattle.srp_core.specs.Acts.{step_by}
use Rattle.srp_core.specs.Routes.{preference_of, size_of, comms_of}
use Rattle.srp_core.specs.Problem.{Problem, count, initial, step_over}
use Rattle.srp_core.specs.Stability.{label}
use Rattle.solution_search.specs.declared.bests.Best.{Best}
use Rattle.solution_search.specs.declared.ahead.foreseen.Foreseen.{Foreseen}
use Rattle.solution_search.specs.declared.ahead.growing.Growing.{Growing}
use Rattle.solution_search.specs.declared.ahead.images.Image.{Image}
use Rattle.solution_search.specs.Ahead.{TakesPart, Passes, MayHold}
use Rattle.solution_search.specs.Boards.{State, best_at}
use Rattle.solution_search.specs.Cases.{Case}
use Rattle.solution_search.specs.Looks.{is_above}

-- the route has these communities, and this size or a larger one
pub record IsOneForeseen (foreseen : Foreseen) (route : Route) : Type 0 where
  pub comms : foreseen.comms ≡ comms_of route
  pub size : foreseen.size ≤ size_of route

-- the route is one of those in the list
pub record IsForeseen (list : List Foreseen) (route : Route) : Type 0 where
  pub foreseen : Foreseen
  pub inside : Contains list foreseen
  pub is_one : IsOneForeseen foreseen route

-- a list for each router
abbrev pub Table : Type 0
Table = List (List Foreseen)

abbrev pub foreseen_at : Table → ℕ → List Foreseen
foreseen_at table router = slice_index_or table router []

-- all that routers may hold is foreseen
pub record ForeseesAll (problem : Problem) (case : Case) (without : Option ℕ) (table : Table) : Type 0 where
  pub total : length table ≡ count problem
  pub all : (router : ℕ) (route : Route) → MayHold problem case without router route → IsForeseen (foreseen_at table router) route

-- ---- how a table is checked

-- the route has this preference, these communities, and this size or a larger one
pub record IsImageOf (image : Image) (route : Route) : Type 0 where
  pub preference : image.preference ≡ preference_of route
  pub comms : image.comms ≡ comms_of route
  pub size : image.size ≤ size_of route

abbrev pub HasImage : Option Image → Route → Type 0
HasImage None route = ⊥
HasImage (Some image) route = IsImageOf image route

-- the image of what the act makes of the routes
pub record IsImage (act : Act) (from : Foreseen) (image : Option Image) : Type 0 where
  pub each : (number : ℕ) (source route : Route) → IsOneForeseen from source → step_by act number source ≡ Some route → HasImage image route

-- no best offer, or none of a higher preference, or of the same and a smaller size
abbrev pub is_unbeaten_by : Option Best → ℕ → ℕ → Bool
is_unbeaten_by None preference size = true
is_unbeaten_by (Some best) preference size = nat_lt (preference_of best.route) preference
    || (nat_eq (preference_of best.route) preference && nat_le size (size_of best.route))

-- whether a route of that preference and size may pass
abbrev pub may_pass : State → ℕ → ℕ → ℕ → Bool
may_pass state router preference size = is_above (slice_index_or state.waits router None) preference && is_unbeaten_by (best_at state.bests router) preference size

-- what the act makes of the routes, and passes at the importer, is foreseen
pub record IsFollowedOver (problem : Problem) (case : Case) (without : Option ℕ) (table : Table) (importer act : ℕ) (from : Foreseen) : Type 0 where
  pub each : (number : ℕ) (source route : Route) → TakesPart case without importer → IsOneForeseen from source →
      step_by (slice_index_or problem.acts act (Cost 0)) number source ≡ Some route → Passes problem case importer route →
      IsForeseen (foreseen_at table importer) route

-- what the edges of that exporter make of the routes, and passes, is foreseen
pub record IsFollowed (problem : Problem) (case : Case) (without : Option ℕ) (table : Table) (exporter : ℕ) (from : Foreseen) : Type 0 where
  pub over : (edge : Edge) → Contains problem.edges edge → edge.exporter ≡ exporter → IsFollowedOver problem case without table edge.importer edge.act from

-- all that is foreseen for a router is followed
abbrev pub IsListFollowed : Problem → Case → Option ℕ → Table → ℕ → Type 0
IsListFollowed problem case without table router = All (IsFollowed problem case without table router) (foreseen_at table router)

-- what a router has or may hold is followed
pub record IsClosedAt (problem : Problem) (case : Case) (without : Option ℕ) (table : Table) (router : ℕ) : Type 0 where
  pub settled : (r : Route) → label case.labels router ≡ Some r → (from : Foreseen) × IsOneForeseen from r × IsFollowed problem case without table router from
  pub first : label case.labels router ≡ None → (r : Route) → initial problem router ≡ Some r → IsForeseen (foreseen_at table router) r
  pub rest : label case.labels router ≡ None → IsListFollowed problem case without table router

-- nothing that the edge makes of the routes passes
pub record GivesNothing (problem : Problem) (case : Case) (edge : Edge) (from : Foreseen) : Type 0 where
  pub none : (source route : Route) → IsOneForeseen from source → step_over problem edge source ≡ Some route → ¬ Passes problem case edge.importer route

-- ---- how a table is grown

-- a list and a mark for each router
pub record IsGrowing (routers : ℕ) (growing : Growing) : Type 0 where
  pub lists : length growing.table.items ≡ routers
  pub marks : length growing.is_new.items ≡ routers
