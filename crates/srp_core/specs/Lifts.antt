-- What `lift` and `fold` give, as relations between the labels of a problem and of its quotient.
use Rattle.std.specs.Prelude.{◌≡◌, ◌≢◌, ℕ, ◌<◌, ◌≤◌, List, [], ◌∷◌, Option, Some, None, Contains}
use Rattle.srp_core.specs.declared.route.Route.{Route}
use Rattle.base_kit.specs.declared.act_graph.Edge.{Edge}
use Rattle.srp_core.specs.Routes.{path_of}
use Rattle.srp_core.specs.Problem.{Problem, count, number, initial, key_of}
use Rattle.srp_core.specs.Stability.{label, AreLabels, IsCandidateOver}
use Rattle.srp_core.specs.Quotient.{group_of, IsFirstMember}

-- the router takes the route over an edge from the group, of the key of the group's route
pub record TakesFrom (problem small : Problem) (groups : List ℕ) (labels : List (Option Route)) (router source : ℕ) (route lower : Route) : Type 0 where
  pub edge : Edge
  pub edge_in : Contains problem.edges edge
  pub importer : edge.importer ≡ router
  pub exporter : group_of groups edge.exporter ≡ source
  pub over : IsCandidateOver problem labels edge route
  pub keyed : key_of problem route ≡ key_of small lower
  pub least : (other : Edge) (candidate : Route) → Contains problem.edges other → other.importer ≡ router → group_of groups other.exporter ≡ source →
      IsCandidateOver problem labels other candidate → key_of problem candidate ≡ key_of small lower → edge.exporter ≤ other.exporter

-- the group whose number is first on a path
pub record IsFirstOn (small : Problem) (path : List ℕ) (source : ℕ) : Type 0 where
  pub inside : source < count small
  pub number_of : ℕ
  pub rest : List ℕ
  pub path_is : path ≡ number_of ∷ rest
  pub numbered : number small source ≡ number_of
  pub some_number : number_of ≢ 0

pub record IsLift (problem small : Problem) (groups : List ℕ) (lower labels : List (Option Route)) : Type 0 where
  pub fitting : AreLabels problem labels
  pub empty : (u : ℕ) → u < count problem → label lower (group_of groups u) ≡ None → label labels u ≡ None
  pub started : (u : ℕ) (r m : Route) → u < count problem → label lower (group_of groups u) ≡ Some m → initial problem u ≡ Some r → label labels u ≡ Some r
  pub taken : (u source : ℕ) (m : Route) → u < count problem → label lower (group_of groups u) ≡ Some m → initial problem u ≡ None →
      IsFirstOn small (path_of m) source → (r : Route) × (label labels u ≡ Some r) × TakesFrom problem small groups labels u source r m

-- the groups along two paths are the same
pub record Tracks (problem small : Problem) (groups : List ℕ) (upper lower : ℕ) : Type 0 where
  pub router : ℕ
  pub inside : router < count problem
  pub numbered : number problem router ≡ upper
  pub number_of_group : number small (group_of groups router) ≡ lower

abbrev pub AllTrack : Problem → Problem → List ℕ → List ℕ → List ℕ → Type 0
AllTrack problem small groups [] [] = Unit {0}
AllTrack problem small groups [] (y ∷ ys) = ⊥
AllTrack problem small groups (x ∷ xs) [] = ⊥
AllTrack problem small groups (x ∷ xs) (y ∷ ys) = Tracks problem small groups x y × AllTrack problem small groups xs ys

-- the group takes the route over an edge from that group, of the key of its first member's route
pub record GroupTakes (problem small : Problem) (lower : List (Option Route)) (taker source : ℕ) (route upper : Route) : Type 0 where
  pub edge : Edge
  pub edge_in : Contains small.edges edge
  pub importer : edge.importer ≡ taker
  pub exporter : edge.exporter ≡ source
  pub over : IsCandidateOver small lower edge route
  pub keyed : key_of small route ≡ key_of problem upper

pub record IsFold (problem small : Problem) (groups : List ℕ) (labels lower : List (Option Route)) : Type 0 where
  pub fitting : AreLabels small lower
  pub empty : (u : ℕ) → u < count problem → label labels u ≡ None → label lower (group_of groups u) ≡ None
  pub started : (u : ℕ) (i : Route) → u < count problem → initial problem u ≡ Some i → label lower (group_of groups u) ≡ Some i
  pub taken : (u source : ℕ) (r : Route) → u < count problem → IsFirstMember groups u → label labels u ≡ Some r → initial problem u ≡ None →
      IsFirstOn problem (path_of r) source → (m : Route) × (label lower (group_of groups u) ≡ Some m)
      × GroupTakes problem small lower (group_of groups u) (group_of groups source) m r
