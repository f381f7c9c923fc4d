-- The routers to whom each router forwards.
use Rattle.std.specs.Prelude.{◌≡◌, ℕ, ◌<◌, List, [], length, Option, Contains, slice_index_or}
use Rattle.base_kit.specs.Sets.{IsAscending}
use Rattle.srp_core.specs.declared.route.Route.{Route}
use Rattle.srp_core.specs.Problem.{Problem, count}
use Rattle.srp_core.specs.Stability.{ForwardsTo}

-- those to whom one router forwards, ascending, each once
pub record AreNextOf (problem : Problem) (labels : List (Option Route)) (router : ℕ) (next : List ℕ) : Type 0 where
  pub ascending : IsAscending next
  pub sound : (v : ℕ) → Contains next v → ForwardsTo problem labels router v
  pub all : (v : ℕ) → ForwardsTo problem labels router v → Contains next v

-- a list for each router
pub record AreNextHops (problem : Problem) (labels : List (Option Route)) (hops : List (List ℕ)) : Type 0 where
  pub total : length hops ≡ count problem
  pub each : (u : ℕ) → u < count problem → AreNextOf problem labels u (slice_index_or hops u [])
