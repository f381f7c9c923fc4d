-- Links that routers can lose without a change of keys.
use Rattle.std.specs.Prelude.{◌≡◌, ℕ, ◌<◌, true, false, [], ◌∷◌, List, Option, Some, Contains}
use Rattle.std.specs.declared.cmp.Ordering.TheVariants.{Equal}
use Rattle.base_kit.specs.declared.act_graph.Edge.{Edge}
use Rattle.route_run.specs.Rounds.{HasNoLone}
use Rattle.srp_core.specs.declared.route.Route.{Route}
use Rattle.srp_core.specs.Problem.{Problem, count, initial, key_of, IsProblem}
use Rattle.srp_core.specs.Solutions.{HoldsHoweverTiesBreak}
use Rattle.srp_core.specs.Stability.{label, IsCandidateOver, IsCandidate, IsStable, HaveSameKeys}
use Rattle.srp_core.specs.Weak.{compare_weak}
use Rattle.srp_core.specs.Without.{Down, is_left, IsWithout}

-- the candidate that the edge gives its importer ties with the importer's label: it forwards over the edge
pub record ForwardsOver (problem : Problem) (labels : List (Option Route)) (edge : Edge) : Type 0 where
  pub route : Route
  pub labelled : label labels edge.importer ≡ Some route
  pub candidate : Route
  pub over : IsCandidateOver problem labels edge candidate
  pub same : key_of problem candidate ≡ key_of problem route

-- the router has an initial route with the key of this route, or a candidate with that key over an edge that is left
pub data HasElsewhere (problem : Problem) (down : Down) (labels : List (Option Route)) (router : ℕ) (route : Route) : Type 0 where
  by_start : (start : Route) → initial problem router ≡ Some start → key_of problem start ≡ key_of problem route →
      HasElsewhere problem down labels router route
  by_edge : (edge : Edge) (candidate : Route) → Contains problem.edges edge → is_left down edge ≡ true → edge.importer ≡ router →
      IsCandidateOver problem labels edge candidate → key_of problem candidate ≡ key_of problem route → HasElsewhere problem down labels router route

-- No router is lone, links alone are down, and they are spare: each router that forwards over an edge
-- that is lost has a route of that key elsewhere.
pub record LosesSpareLinks (problem : Problem) (down : Down) (labels : List (Option Route)) : Type 0 where
  pub rules : IsProblem problem
  pub none_lone : HasNoLone problem
  pub links : (u : ℕ) → down.routers u ≡ false
  pub stable : IsStable problem labels
  pub spare : (edge : Edge) (forwards : ForwardsOver problem labels edge) → Contains problem.edges edge → is_left down edge ≡ false →
      HasElsewhere problem down labels edge.importer forwards.route

-- each router has the same keys in both, and over the edges that are left each forwards as before
pub record KeepsSolution (problem other : Problem) (labels after : List (Option Route)) : Type 0 where
  pub keys : (u : ℕ) → u < count problem → HaveSameKeys problem other (label labels u) (label after u)
  pub forwards : (edge : Edge) → Contains other.edges edge → ForwardsOver other after edge → ForwardsOver problem labels edge
  pub forwarded : (edge : Edge) → Contains other.edges edge → ForwardsOver problem labels edge → ForwardsOver other after edge

-- Without links that are spare the solution is what it was.
abbrev pub SpareLinksKeepKeys : Type 0
SpareLinksKeepKeys = (problem other : Problem) (down : Down) (labels after : List (Option Route)) → LosesSpareLinks problem down labels
    → IsWithout problem down other → IsStable other after → KeepsSolution problem other labels after

-- Where no router is lone none is without some links and routers.
abbrev pub NoneBecomesLone : Type 0
NoneBecomesLone = (problem other : Problem) (down : Down) → IsProblem problem → HasNoLone problem → IsWithout problem down other → HasNoLone other

-- each candidate of a router that has the preference and the size of its label has the key of its label
pub record HasNoTie (problem : Problem) (labels : List (Option Route)) : Type 0 where
  pub same : (u : ℕ) (r c : Route) → label labels u ≡ Some r → IsCandidate problem labels u c →
      compare_weak (key_of problem c) (key_of problem r) ≡ Equal → key_of problem c ≡ key_of problem r

-- Where no router is lone and there is no tie the solution holds however ties are broken.
abbrev pub NoTieHolds : Type 0
NoTieHolds = (problem : Problem) (labels : List (Option Route)) → IsProblem problem → HasNoLone problem → IsStable problem labels
    → HasNoTie problem labels → HoldsHoweverTiesBreak problem (labels ∷ [])

-- Where there is no tie there is none without links that are spare.
abbrev pub SpareLinksBringNoTie : Type 0
SpareLinksBringNoTie = (problem other : Problem) (down : Down) (labels after : List (Option Route)) → LosesSpareLinks problem down labels
    → IsWithout problem down other → IsStable other after → HasNoTie problem labels → HasNoTie other after
