-- How good the routes over an act can be at best.
use Rattle.std.specs.Prelude.{◌≡◌, ℕ, ◌<◌, List, Some}
use Rattle.std.specs.declared.cmp.Ordering.TheVariants.{Greater}
use Rattle.srp_core.specs.declared.route.Route.{Route}
use Rattle.srp_core.specs.declared.route.Act.{Act}
use Rattle.srp_core.specs.Acts.{step_by}
use Rattle.srp_core.specs.Routes.{size_of}
use Rattle.srp_core.specs.Weak.{compare_weak}
use Rattle.route_keys.specs.Keys.{key_with}

-- each route that the act makes of this one has a greater size
pub record AreLonger (act : Act) (from : Route) (size : ℕ) : Type 0 where
  pub longer : (number : ℕ) (route : Route) → step_by act number from ≡ Some route → size < size_of route

-- each route that the act makes of this one is worse than the other, by preference and size
pub record AreWorse (act : Act) (from other : Route) : Type 0 where
  pub worse : (number : ℕ) (route : Route) (a b : List ℕ) → step_by act number from ≡ Some route →
      compare_weak (key_with route a) (key_with other b) ≡ Greater
