-- The search for all stable labels of a problem (Griffin, Shepherd and Wilfong, The Stable Paths Problem
-- and Interdomain Routing, 2002, for what makes it hard). Routers are settled one after another, and keep
-- the label that they get. A case is what is settled so far.
use Rattle.std.specs.Prelude.{◌≡◌, ◌≢◌, ℕ, ◌<◌, ◌≤◌, Bool, false, List, length, set, replicate, Option, Some, None, slice_index_or, Contains}
use Rattle.std.specs.declared.cmp.Ordering.TheVariants.{Less, Equal}
use Rattle.base_kit.specs.declared.act_graph.Edge.{Edge}
use Rattle.srp_core.specs.declared.route.Route.{Route}
use Rattle.srp_core.specs.Routes.{preference_of, size_of, IsRouteOf, Key, compare_keys}
use Rattle.srp_core.specs.Problem.{Problem, count, step_over, key_of}
use Rattle.srp_core.specs.Stability.{label, AreLabels, IsCandidate}
use Rattle.srp_core.specs.Weak.{compare_weak}

-- the labels of the settled routers; and for some other routers a preference: they wait for an offer above it
pub record Case : Type 0 where
  pub labels : List (Option Route)
  pub waits : List (Option ℕ)

-- above which preference a router waits for an offer, if it waits
abbrev pub waits_above : Case → ℕ → Option ℕ
waits_above case router = slice_index_or case.waits router None

-- a candidate of a router that is not settled, from a settled exporter or its own
pub record IsOffer (problem : Problem) (case : Case) (router : ℕ) (route : Route) : Type 0 where
  pub unsettled : label case.labels router ≡ None
  pub candidate : IsCandidate problem case.labels router route

-- an offer that no other offer of the router beats
pub record IsBestOffer (problem : Problem) (case : Case) (router : ℕ) (route : Route) : Type 0 where
  pub offer : IsOffer problem case router route
  pub best : (other : Route) → IsOffer problem case router other → compare_keys (key_of problem other) (key_of problem route) ≢ Less

-- the preference is above that, if there is one
abbrev pub IsAbove : Option ℕ → ℕ → Type 0
IsAbove None preference = Unit {0}
IsAbove (Some awaited) preference = awaited < preference

-- the router has this best offer, and does not wait for a better one
pub record IsOpen (problem : Problem) (case : Case) (router : ℕ) (route : Route) : Type 0 where
  pub best : IsBestOffer problem case router route
  pub above : IsAbove (waits_above case router) (preference_of route)

-- of all open routers this one has the smallest best offer
pub record IsNext (problem : Problem) (case : Case) (router : ℕ) (route : Route) : Type 0 where
  pub is_open : IsOpen problem case router route
  pub smallest : (other : ℕ) (best : Route) → IsOpen problem case other best → size_of route ≤ size_of best

-- no edge from an exporter that is not settled can give the router a route of a higher preference
pub record IsSure (problem : Problem) (case : Case) (router preference : ℕ) : Type 0 where
  pub not_above : (edge : Edge) (from route : Route) → Contains problem.edges edge → edge.importer ≡ router → label case.labels edge.exporter ≡ None →
      IsRouteOf problem.protocol from → step_over problem edge from ≡ Some route → preference_of route ≤ preference

-- the router takes the route
abbrev pub taken : Case → ℕ → Route → Case
taken case router route = record { labels = set case.labels router (Some route); waits = case.waits }

-- the router waits for an offer of a higher preference than that
abbrev pub waiting : Case → ℕ → ℕ → Case
waiting case router preference = record { labels = case.labels; waits = set case.waits router (Some preference) }

-- no settled router has a candidate that beats its label
pub record AreUnbeaten (problem : Problem) (labels : List (Option Route)) : Type 0 where
  pub best : (u : ℕ) (r c : Route) → label labels u ≡ Some r → IsCandidate problem labels u c → compare_keys (key_of problem c) (key_of problem r) ≢ Less

-- a settled router has a candidate that beats its label, by preference and size alone if no tie is noted
pub record IsBeaten (problem : Problem) (tied : Bool) (labels : List (Option Route)) : Type 0 where
  pub router : ℕ
  pub route : Route
  pub labelled : label labels router ≡ Some route
  pub other : Route
  pub candidate : IsCandidate problem labels router other
  pub better : compare_keys (key_of problem other) (key_of problem route) ≡ Less
  pub weakly : tied ≡ false → compare_weak (key_of problem other) (key_of problem route) ≡ Less

-- the offers of the router that have the preference and the size of that one have its key
pub record HasOneKey (problem : Problem) (case : Case) (router : ℕ) (route : Route) : Type 0 where
  pub same : (other : Route) → IsOffer problem case router other → compare_weak (key_of problem other) (key_of problem route) ≡ Equal →
      key_of problem other ≡ key_of problem route

-- the candidates of a settled router that have the preference and the size of its label have its key
pub record HasNoTie (problem : Problem) (labels : List (Option Route)) : Type 0 where
  pub same : (router : ℕ) (route other : Route) → label labels router ≡ Some route → IsCandidate problem labels router other →
      compare_weak (key_of problem other) (key_of problem route) ≡ Equal → key_of problem other ≡ key_of problem route

-- each settled router holds a candidate that none beats, and each other one that waits has an offer
pub record IsCase (problem : Problem) (case : Case) : Type 0 where
  pub fitting : AreLabels problem case.labels
  pub waits : length case.waits ≡ count problem
  pub held : (u : ℕ) (r : Route) → label case.labels u ≡ Some r → IsCandidate problem case.labels u r
  pub unbeaten : AreUnbeaten problem case.labels
  pub offered : (u p : ℕ) → label case.labels u ≡ None → waits_above case u ≡ Some p → (c : Route) × IsCandidate problem case.labels u c

-- the router has a label of that key
pub record HoldsKey (problem : Problem) (labels : List (Option Route)) (router : ℕ) (key : Key) : Type 0 where
  pub route : Route
  pub labelled : label labels router ≡ Some route
  pub keyed : key_of problem route ≡ key

-- the router has a label of a higher preference than that
pub record HoldsAbove (labels : List (Option Route)) (router preference : ℕ) : Type 0 where
  pub route : Route
  pub labelled : label labels router ≡ Some route
  pub above : preference < preference_of route

-- the labels may be reached from the case: settled routers have their keys in them, and each other router
-- that waits has got what it waits for
pub record Admits (problem : Problem) (case : Case) (labels : List (Option Route)) : Type 0 where
  pub settled : (u : ℕ) (r : Route) → label case.labels u ≡ Some r → HoldsKey problem labels u (key_of problem r)
  pub waited : (u p : ℕ) → label case.labels u ≡ None → waits_above case u ≡ Some p → HoldsAbove labels u p

-- no router is open
pub record IsAtEnd (problem : Problem) (case : Case) : Type 0 where
  pub closed : (u : ℕ) (r : Route) → ¬ IsOpen problem case u r

-- no router is settled, and none waits
abbrev pub start_of : Problem → Case
start_of problem = record { labels = replicate (count problem) None; waits = replicate (count problem) None }
