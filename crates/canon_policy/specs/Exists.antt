-- Canonical acts, or a first edge that has none: there is always the one or the other.
use Rattle.std.specs.Prelude.{◌⊎◌, ℕ, List}
use Rattle.std.specs.List.{AllByRecursion}
use Rattle.base_kit.specs.Sets.{IsAscending}
use Rattle.srp_core.specs.ActMaps.{IsActWithin, IsPrintableAct}
use Rattle.srp_core.specs.Alike.{ProblemsAlike}
use Rattle.srp_core.specs.Problem.{IsProblem, Problem}
use Rattle.canon_policy.specs.CanonicalProblem.{AreCommunities, IsCanonicalProblem, IsFirstWithout}

-- the problem with canonical acts: it keeps the rules, is alike, and its maps can be printed and name only these communities
pub record HasCanonical (universe : List ℕ) (problem : Problem) : Type 0 where
  pub canonical : Problem
  pub is : IsCanonicalProblem universe problem canonical
  pub rules : IsProblem canonical
  pub alike : ProblemsAlike problem canonical
  pub printable : AllByRecursion IsPrintableAct canonical.acts
  pub within : AllByRecursion (IsActWithin universe) canonical.acts

-- an edge whose act has no canonical lists; the act of each edge before it has some
pub record IsWithoutCanonical (universe : List ℕ) (problem : Problem) : Type 0 where
  pub place : ℕ
  pub first : IsFirstWithout universe problem place

-- Each problem whose maps can be printed and name only these communities has canonical acts, or a first edge without.
abbrev pub EachHasCanonical : Type 0
EachHasCanonical = (universe : List ℕ) → IsAscending universe → AreCommunities universe → (problem : Problem) → IsProblem problem
    → AllByRecursion IsPrintableAct problem.acts → AllByRecursion (IsActWithin universe) problem.acts
    → HasCanonical universe problem ⊎ IsWithoutCanonical universe problem
