-- What a router without a label may still get. A route is followed from router to router by its communities
-- and its size, since a route map looks at nothing else of it.
use Rattle.std.specs.Prelude.{◌≡◌, ◌≢◌, ℕ, Option, Some, None, Contains}
use Rattle.std.specs.declared.cmp.Ordering.TheVariants.{Less}
use Rattle.base_kit.specs.declared.act_graph.Edge.{Edge}
use Rattle.srp_core.specs.declared.route.Route.{Route}
use Rattle.srp_core.specs.Routes.{preference_of}
use Rattle.srp_core.specs.Problem.{Problem, step_over, key_of}
use Rattle.srp_core.specs.Stability.{label}
use Rattle.srp_core.specs.Weak.{compare_weak}
use Rattle.solution_search.specs.Cases.{Case, waits_above, IsOffer, IsAbove}

-- the router has no label, and is not the one that is left out
pub record TakesPart (case : Case) (without : Option ℕ) (router : ℕ) : Type 0 where
  pub unsettled : label case.labels router ≡ None
  pub kept : without ≢ Some router

-- the router does not wait for a higher preference, and no offer beats the route by preference and size
pub record Passes (problem : Problem) (case : Case) (router : ℕ) (route : Route) : Type 0 where
  pub above : IsAbove (waits_above case router) (preference_of route)
  pub unbeaten : (offer : Route) → IsOffer problem case router offer → compare_weak (key_of problem offer) (key_of problem route) ≢ Less

-- the router may hold the route: it is an offer, or an edge makes it of what its exporter may hold
pub data MayHold (problem : Problem) (case : Case) (without : Option ℕ) : ℕ → Route → Type 0 where
  holds_offer : (router : ℕ) (route : Route) → TakesPart case without router → IsOffer problem case router route → Passes problem case router route →
      MayHold problem case without router route
  holds_import : (edge : Edge) (from route : Route) → Contains problem.edges edge → TakesPart case without edge.importer →
      MayHold problem case without edge.exporter from → step_over problem edge from ≡ Some route → Passes problem case edge.importer route →
      MayHold problem case without edge.importer route

-- nothing that exporters may hold passes at the router
pub record NothingComes (problem : Problem) (case : Case) (without : Option ℕ) (router : ℕ) : Type 0 where
  pub none : (edge : Edge) (from route : Route) → Contains problem.edges edge → edge.importer ≡ router → MayHold problem case without edge.exporter from →
      step_over problem edge from ≡ Some route → ¬ Passes problem case router route
