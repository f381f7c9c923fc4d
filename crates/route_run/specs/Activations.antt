-- One router after the other chooses its label anew from the labels as they stand (Beckett, Gupta,
-- Mahajan and Walker, Control Plane Compression, SIGCOMM 2018, section 3; RFC 4271 section 9.1.2 for a
-- router that keeps the route it has where no other is better).
use Rattle.std.specs.Prelude.{◌≡◌, ◌≢◌, ℕ, ◌<◌, Bool, false, not, ◌&&◌, List, fold, find, replicate, Option, Some, None, option_map, slice_set, if◌then◌else◌}
use Rattle.std.specs.List.{list_any, list_all}
use Rattle.std.specs.Ordering.{is_lt}
use Rattle.srp_core.specs.declared.route.Route.{Route}
use Rattle.srp_core.specs.declared.route.Candidate.{Candidate}
use Rattle.srp_core.specs.Routes.{key_by, compare_keys}
use Rattle.srp_core.specs.Problem.{Problem, count, is_lone_number}
use Rattle.srp_core.specs.Stability.{label}
use Rattle.srp_core.specs.Candidates.{candidates}
use Rattle.route_keys.specs.Same.{same_route}

-- whether the first route has the better key, where the test tells the numbers of lone routers
abbrev pub beats : (ℕ → Bool) → Route → Route → Bool
beats is_lone route other = is_lt (compare_keys (key_by is_lone route) (key_by is_lone other))

-- none of the candidates has a better key than the route
abbrev pub is_unbeaten : (ℕ → Bool) → List Candidate → Route → Bool
is_unbeaten is_lone all route = list_all (λ other. not (beats is_lone other.route route)) all

-- the first candidate of best key
abbrev pub first_best : (ℕ → Bool) → List Candidate → Option Route
first_best is_lone all = option_map (λ candidate. candidate.route) (find (λ candidate. is_unbeaten is_lone all candidate.route) all)

-- whether the route is a candidate
abbrev pub is_held : List Candidate → Route → Bool
is_held all route = list_any (λ candidate. same_route candidate.route route) all

-- whether the label is a candidate of best key
abbrev pub is_still_best : (ℕ → Bool) → List Candidate → Option Route → Bool
is_still_best is_lone all None = false
is_still_best is_lone all (Some route) = is_held all route && is_unbeaten is_lone all route

-- The label that a router chooses: the one it has if that is a candidate of best key, else the first
-- candidate of best key, and none where there is no candidate.
unfoldable pub chosen_of : (ℕ → Bool) → List Candidate → Option Route → Option Route
chosen_of is_lone all label = if is_still_best is_lone all label then label else first_best is_lone all

-- the label that an activation gives the router
abbrev pub chosen_label : Problem → List (Option Route) → ℕ → Option Route
chosen_label problem labels router = chosen_of (is_lone_number problem) (candidates problem labels router) (label labels router)

-- the labels after an activation of the router
abbrev pub activated : Problem → List (Option Route) → ℕ → List (Option Route)
activated problem labels router = slice_set labels router (chosen_label problem labels router)

-- the labels after the activations of a run, one after the other
abbrev pub labels_after : Problem → List (Option Route) → List ℕ → List (Option Route)
labels_after problem labels run = fold (activated problem) labels run

-- no router has a label
abbrev pub no_labels : Problem → List (Option Route)
no_labels problem = replicate (count problem) None

-- no activation of a router changes the labels
pub record IsAtRest (problem : Problem) (labels : List (Option Route)) : Type 0 where
  pub unchanged : (u : ℕ) → u < count problem → activated problem labels u ≡ labels

-- the first router whose activation changes its label
pub record IsFirstMoving (problem : Problem) (labels : List (Option Route)) (router : ℕ) : Type 0 where
  pub inside : router < count problem
  pub moves : chosen_label problem labels router ≢ label labels router
  pub before : (v : ℕ) → v < router → chosen_label problem labels v ≡ label labels v
