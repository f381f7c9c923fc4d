-- Partitions of the routers of a problem whose groups can stand for their members, the problem of the
-- groups, and when labels of both say the same (Beckett, Gupta, Mahajan and Walker, Control Plane
-- Compression, SIGCOMM 2018, sections 4 and 5). A partition is the list of the routers' groups.
use Rattle.std.specs.Prelude.{◌≡◌, ◌≢◌, ◌⊎◌, zero, suc, ℕ, ◌<◌, true, not, ◌&&◌, nat_eq, List, [], ◌∷◌, length, Option, Some, slice_index, slice_index_or, Contains, if◌then◌else◌}
use Rattle.base_kit.specs.declared.act_graph.Edge.{Edge}
use Rattle.base_kit.specs.Partition.{Refines}
use Rattle.srp_core.specs.declared.route.Route.{Route}
use Rattle.srp_core.specs.Acts.{ActsAlike}
use Rattle.srp_core.specs.Problem.{Problem, count, number, initial, is_lone, act_of, HasTables, HasEdges}
use Rattle.srp_core.specs.Stability.{label, HaveSameKeys, ForwardsTo}

-- the group of a router
abbrev pub group_of : List ℕ → ℕ → ℕ
group_of groups router = slice_index groups router

-- the router has an edge into the group of this edge's exporter that acts as this edge does
pub record Twin (problem : Problem) (groups : List ℕ) (router : ℕ) (edge : Edge) : Type 0 where
  pub other : Edge
  pub other_in : Contains problem.edges other
  pub importer : other.importer ≡ router
  pub exporter : group_of groups other.exporter ≡ group_of groups edge.exporter
  pub alike : ActsAlike (act_of problem edge) (act_of problem other)

-- members of a group have equal initial routes, a lone router is alone, and members have twins of
-- each other's edges into other groups
pub record IsAdmissible (problem : Problem) (groups : List ℕ) : Type 0 where
  pub total : length groups ≡ count problem
  pub origins : (u v : ℕ) → u < count problem → v < count problem → group_of groups u ≡ group_of groups v → initial problem u ≡ initial problem v
  pub alone : (u v : ℕ) → u < count problem → v < count problem → group_of groups u ≡ group_of groups v → is_lone problem u ≡ true → u ≡ v
  pub twins : (u v : ℕ) (edge : Edge) → u < count problem → v < count problem → group_of groups u ≡ group_of groups v → Contains problem.edges edge →
      edge.importer ≡ u → group_of groups edge.exporter ≢ group_of groups u → Twin problem groups v edge

-- an admissible partition that every admissible partition refines
pub record IsCoarsest (problem : Problem) (groups : List ℕ) : Type 0 where
  pub admissible : IsAdmissible problem groups
  pub refined : (others : List ℕ) → IsAdmissible problem others → Refines (count problem) others groups

-- no router before this one is in its group
pub record IsFirstMember (groups : List ℕ) (router : ℕ) : Type 0 where
  pub first : (v : ℕ) → v < router → group_of groups v ≢ group_of groups router

-- the number of the group's first member that has one, or 0
unfoldable pub first_number : List ℕ → List ℕ → ℕ → ℕ
first_number [] groups wanted = 0
first_number (number ∷ numbers) [] wanted = 0
first_number (number ∷ numbers) (group ∷ groups) wanted = if nat_eq group wanted && not (nat_eq number 0) then number else first_number numbers groups wanted

-- a router that has an initial route or stands on an edge
pub data IsUsed (problem : Problem) (router : ℕ) : Type 0 where
  originates : (r : Route) → initial problem router ≡ Some r → IsUsed problem router
  imports : (edge : Edge) → Contains problem.edges edge → edge.importer ≡ router → IsUsed problem router
  exports : (edge : Edge) → Contains problem.edges edge → edge.exporter ≡ router → IsUsed problem router

-- an edge between different groups, and the same act between the routers that stand for them
pub record Lies (problem small : Problem) (groups : List ℕ) (edge lower : Edge) : Type 0 where
  pub importer : group_of groups edge.importer ≡ lower.importer
  pub exporter : group_of groups edge.exporter ≡ lower.exporter
  pub differ : lower.importer ≢ lower.exporter
  pub alike : ActsAlike (act_of problem edge) (act_of small lower)

-- The routers of `small` are the groups in order, named by their first members. A group has the initial
-- route and the mark of its members. A group that is used has the number of its first member with one;
-- other groups have 0. Between different groups `small` has an edge for each act of their members'
-- edges, and no other edges.
pub record IsQuotient (problem : Problem) (groups : List ℕ) (small : Problem) : Type 0 where
  pub protocol : problem.protocol ≡ small.protocol
  pub inside : (u : ℕ) → u < count problem → group_of groups u < count small
  pub onto : (g : ℕ) → g < count small → (u : ℕ) × (u < count problem) × (group_of groups u ≡ g)
  pub names : (u : ℕ) → u < count problem → IsFirstMember groups u → slice_index_or small.names (group_of groups u) [] ≡ slice_index_or problem.names u []
  pub origins : (u : ℕ) → u < count problem → initial small (group_of groups u) ≡ initial problem u
  pub lone : (u : ℕ) → u < count problem → is_lone small (group_of groups u) ≡ is_lone problem u
  pub down : (lower : Edge) → Contains small.edges lower → (edge : Edge) × Contains problem.edges edge × Lies problem small groups edge lower
  pub up : (edge : Edge) → Contains problem.edges edge → group_of groups edge.importer ≢ group_of groups edge.exporter →
      (lower : Edge) × Contains small.edges lower × Lies problem small groups edge lower
  pub numbers : (g : ℕ) → g < count small → IsUsed small g → number small g ≡ first_number problem.numbers groups g
  pub unused : (g : ℕ) → g < count small → ¬ IsUsed small g → number small g ≡ 0

-- The tables of a quotient keep those rules of a problem that `IsQuotient` leaves open, and its acts are
-- those of the problem.
pub record KeepsTables (problem small : Problem) : Type 0 where
  pub tables : HasTables small
  pub edges : HasEdges small
  pub acts : small.acts ≡ problem.acts

-- each router has the key of its group's router, or both have none, and the groups of those to whom it
-- forwards are those to whom its group's router forwards
pub record Corresponds (problem small : Problem) (groups : List ℕ) (labels lower : List (Option Route)) : Type 0 where
  pub keys : (u : ℕ) → u < count problem → HaveSameKeys problem small (label labels u) (label lower (group_of groups u))
  pub down : (u v : ℕ) → u < count problem → ForwardsTo problem labels u v → ForwardsTo small lower (group_of groups u) (group_of groups v)
  pub up : (u h : ℕ) → u < count problem → ForwardsTo small lower (group_of groups u) h → (v : ℕ) × ForwardsTo problem labels u v × (group_of groups v ≡ h)

-- the routers are together in one of the two partitions
abbrev pub AreTogetherInOne : List ℕ → List ℕ → ℕ → ℕ → Type 0
AreTogetherInOne first second u v = (group_of first u ≡ group_of first v) ⊎ (group_of second u ≡ group_of second v)

-- a chain of so many steps leads from the one router to the other, each between routers that are
-- together in one of the two partitions
abbrev pub AreLinked : ℕ → List ℕ → List ℕ → ℕ → ℕ → ℕ → Type 0
AreLinked count first second zero u v = u ≡ v
AreLinked count first second (suc steps) u v = (w : ℕ) × (w < count) × AreTogetherInOne first second u w × AreLinked count first second steps w v

-- the join of two partitions: routers are together exactly if a chain leads from one to the other
pub record IsJoin (count : ℕ) (first second joined : List ℕ) : Type 0 where
  pub total : length joined ≡ count
  pub linked : (u v : ℕ) → u < count → v < count → group_of joined u ≡ group_of joined v → (steps : ℕ) × AreLinked count first second steps u v
  pub together : (steps u v : ℕ) → u < count → v < count → AreLinked count first second steps u v → group_of joined u ≡ group_of joined v
