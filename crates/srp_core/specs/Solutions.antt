-- All stable labels of a problem as a list, and when that list says what routers may come to however
-- they break ties. Labels with the same keys are one solution: they differ in the names on paths alone.
use Rattle.std.specs.Prelude.{ℕ, ◌≡◌, ◌<◌, List, Option, Some, Contains, slice_get}
use Rattle.srp_core.specs.declared.route.Route.{Route}
use Rattle.srp_core.specs.Problem.{Problem, count}
use Rattle.srp_core.specs.Stability.{label, IsStable, ForwardsTo, HaveSameKeys}
use Rattle.srp_core.specs.Weak.{IsWeaklyStable, ForwardsWeaklyTo}

-- each router holds routes of one key in both, or none in both
abbrev pub HaveEqualKeys : Problem → List (Option Route) → List (Option Route) → Type 0
HaveEqualKeys problem first second = (u : ℕ) → u < count problem → HaveSameKeys problem problem (label first u) (label second u)

-- a member of the list has the keys of these labels
pub record HasMemberLike (problem : Problem) (found : List (List (Option Route))) (labels : List (Option Route)) : Type 0 where
  pub member : List (Option Route)
  pub inside : Contains found member
  pub keys : HaveEqualKeys problem labels member

-- Each member is stable, no two have the same keys, and all stable labels have the keys of a member.
pub record AreAllSolutions (problem : Problem) (found : List (List (Option Route))) : Type 0 where
  pub stable : (labels : List (Option Route)) → Contains found labels → IsStable problem labels
  pub apart : (i j : ℕ) (first second : List (Option Route)) → i < j → slice_get found i ≡ Some first → slice_get found j ≡ Some second →
      ¬ HaveEqualKeys problem first second
  pub all : (labels : List (Option Route)) → IsStable problem labels → HasMemberLike problem found labels

-- a member of the list has the keys of these weakly stable labels, and under both each router forwards
-- to the same ones
pub record HasMemberAsWeak (problem : Problem) (found : List (List (Option Route))) (labels : List (Option Route)) : Type 0 where
  pub member : List (Option Route)
  pub inside : Contains found member
  pub keys : HaveEqualKeys problem labels member
  pub forwards : (u v : ℕ) → ForwardsWeaklyTo problem labels u v → ForwardsTo problem member u v
  pub forwarded : (u v : ℕ) → ForwardsTo problem member u v → ForwardsWeaklyTo problem labels u v

-- Whatever decides between routes of one preference and size, the routers come to a member of the list.
pub record HoldsHoweverTiesBreak (problem : Problem) (found : List (List (Option Route))) : Type 0 where
  pub each : (labels : List (Option Route)) → IsWeaklyStable problem labels → HasMemberAsWeak problem found labels
