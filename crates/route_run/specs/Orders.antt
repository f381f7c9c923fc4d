-- The order of a solution: the routers by ascending size of their labels.
use Rattle.std.specs.Prelude.{◌≡◌, ℕ, ◌<◌, ◌⊎◌, All, AllPairs, Contains, List, Option, Some, None}
use Rattle.srp_core.specs.declared.route.Route.{Route}
use Rattle.srp_core.specs.Routes.{size_of}
use Rattle.srp_core.specs.Problem.{Problem, count}
use Rattle.srp_core.specs.Stability.{label, IsStable, HaveSameKeys}

-- A router with a label of smaller size stands before one of larger size, and one with a label before
-- one without. Ties go by router number.
abbrev pub StandsFirst : Option Route → Option Route → ℕ → ℕ → Type 0
StandsFirst (Some r) (Some s) u v = (size_of r < size_of s) ⊎ ((size_of r ≡ size_of s) × (u < v))
StandsFirst (Some r) None u v = Unit {0}
StandsFirst None (Some s) u v = ⊥
StandsFirst None None u v = u < v

abbrev pub StandsBefore : List (Option Route) → ℕ → ℕ → Type 0
StandsBefore labels u v = StandsFirst (label labels u) (label labels v) u v

-- the run that has each router once, in the order of the labels
pub record IsOrderOf (problem : Problem) (labels : List (Option Route)) (run : List ℕ) : Type 0 where
  pub each : (u : ℕ) → u < count problem → Contains run u
  pub only : All (λ u. u < count problem) run
  pub sorted : AllPairs (StandsBefore labels) run

-- stable labels in which each router has the key of its given label, or none where that is none
pub record IsSolutionLike (problem : Problem) (given reached : List (Option Route)) : Type 0 where
  pub stable : IsStable problem reached
  pub keys : (u : ℕ) → u < count problem → HaveSameKeys problem problem (label reached u) (label given u)
