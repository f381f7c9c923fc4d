-- What the laws conclude, where a conclusion has several parts.
use Rattle.std.specs.Prelude.{◌≡◌, ◌≢◌, ℕ, ◌<◌, false, List, Option, Some}
use Rattle.std.specs.declared.cmp.Ordering.TheVariants.{Less}
use Rattle.srp_core.specs.declared.route.Route.{Route}
use Rattle.srp_core.specs.Routes.{preference_of, size_of, path_of, compare_keys}
use Rattle.srp_core.specs.Problem.{Problem, count, number, is_lone, key_of}
use Rattle.srp_core.specs.Stability.{label, IsStable}
use Rattle.srp_core.specs.Quotient.{Corresponds}

-- stable labels of the quotient that correspond to those of the problem
pub record Below (problem small : Problem) (groups : List ℕ) (labels : List (Option Route)) : Type 0 where
  pub lower : List (Option Route)
  pub stable : IsStable small lower
  pub correspond : Corresponds problem small groups labels lower

-- stable labels of the problem that correspond to those of its quotient
pub record Above (problem small : Problem) (groups : List ℕ) (lower : List (Option Route)) : Type 0 where
  pub labels : List (Option Route)
  pub stable : IsStable problem labels
  pub correspond : Corresponds problem small groups labels lower

-- a router of that number has a label of that path
pub record HasPath (problem : Problem) (labels : List (Option Route)) (wanted : ℕ) (path : List ℕ) : Type 0 where
  pub router : ℕ
  pub inside : router < count problem
  pub numbered : number problem router ≡ wanted
  pub some_number : wanted ≢ 0
  pub route : Route
  pub labelled : label labels router ≡ Some route
  pub same : path_of route ≡ path

-- the router has a label, and its key is better
pub record HasBetter (problem : Problem) (labels : List (Option Route)) (router : ℕ) (route : Route) : Type 0 where
  pub own : Route
  pub labelled : label labels router ≡ Some own
  pub better : compare_keys (key_of problem own) (key_of problem route) ≡ Less

-- the router has a label, and it is shorter than the route; where the router is not lone, both have one
-- preference
pub record HasShorter (problem : Problem) (labels : List (Option Route)) (router : ℕ) (route : Route) : Type 0 where
  pub own : Route
  pub labelled : label labels router ≡ Some own
  pub shorter : size_of own < size_of route
  pub preferred : is_lone problem router ≡ false → preference_of own ≡ preference_of route
