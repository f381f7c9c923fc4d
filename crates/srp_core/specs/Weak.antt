-- Labels in which a network may rest, however its routers break ties. A router takes a route of the
-- highest preference and, of these, one of the shortest path (RFC 4271 sections 9.1.1 and 9.1.2.2 a; in
-- OSPF the least cost). What decides between the rest, the later steps of section 9.1.2.2 or the age of
-- a route, is left open.
use Rattle.std.specs.Prelude.{◌≡◌, ◌≢◌, ℕ, ◌<◌, List, Option, Some, None, Contains}
use Rattle.std.specs.Ordering.{nat_cmp, then_cmp, on, flip_args}
use Rattle.std.specs.declared.cmp.Ordering.{Ordering}
use Rattle.std.specs.declared.cmp.Ordering.TheVariants.{Less, Equal}
use Rattle.base_kit.specs.declared.act_graph.Edge.{Edge}
use Rattle.srp_core.specs.declared.route.Route.{Route}
use Rattle.srp_core.specs.Routes.{Key}
use Rattle.srp_core.specs.Problem.{Problem, count, key_of}
use Rattle.srp_core.specs.Stability.{label, AreLabels, IsCandidateOver, IsCandidate}

-- Less where the first key is better by its preference, or has the same and a smaller size
unfoldable pub compare_weak : Key → Key → Ordering
compare_weak = then_cmp (on (λ k. k.preference) (flip_args nat_cmp)) (on (λ k. k.size) nat_cmp)

-- a router without candidates has no label, and each other holds a candidate that none beats by
-- preference and size
pub record IsWeaklyStable (problem : Problem) (labels : List (Option Route)) : Type 0 where
  pub fitting : AreLabels problem labels
  pub none : (u : ℕ) (c : Route) → u < count problem → label labels u ≡ None → ¬ IsCandidate problem labels u c
  pub held : (u : ℕ) (r : Route) → u < count problem → label labels u ≡ Some r → IsCandidate problem labels u r
  pub best : (u : ℕ) (r c : Route) → u < count problem → label labels u ≡ Some r → IsCandidate problem labels u c →
      compare_weak (key_of problem c) (key_of problem r) ≢ Less

-- the router may forward to the exporter of each of its edges whose candidate has the preference and
-- the size of its label
pub record ForwardsWeaklyTo (problem : Problem) (labels : List (Option Route)) (router next : ℕ) : Type 0 where
  pub route : Route
  pub labelled : label labels router ≡ Some route
  pub edge : Edge
  pub edge_in : Contains problem.edges edge
  pub importer : edge.importer ≡ router
  pub exporter : edge.exporter ≡ next
  pub candidate : Route
  pub over : IsCandidateOver problem labels edge candidate
  pub same : compare_weak (key_of problem candidate) (key_of problem route) ≡ Equal
