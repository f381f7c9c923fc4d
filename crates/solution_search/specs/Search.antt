-- What a search has found, and what it still has to follow.
use Rattle.std.specs.Prelude.{◌≡◌, ℕ, ◌<◌, ◌⊎◌, Bool, false, List, [], ◌∷◌, Option, Some, Contains, slice_get}
use Rattle.srp_core.specs.declared.route.Route.{Route}
use Rattle.srp_core.specs.Problem.{Problem}
use Rattle.srp_core.specs.Stability.{IsStable}
use Rattle.srp_core.specs.Weak.{IsWeaklyStable}
use Rattle.srp_core.specs.Solutions.{HaveEqualKeys, HasMemberLike, HasMemberAsWeak}
use Rattle.solution_search.specs.Cases.{Case, HasNoTie, IsCase, Admits}

-- a case of the list admits the labels
pub record HasCaseFor (problem : Problem) (cases : List Case) (labels : List (Option Route)) : Type 0 where
  pub case : Case
  pub inside : Contains cases case
  pub admits : Admits problem case labels

-- no labels are admitted by two cases of the list
abbrev pub AreApart : Problem → List Case → Type 0
AreApart problem [] = Unit {0}
AreApart problem (case ∷ cases) = ((other : Case) (labels : List (Option Route)) → Contains cases other → Admits problem case labels →
    ¬ Admits problem other labels) × AreApart problem cases

-- Labels that were found, and cases that are still to be followed. `tied` says whether a tie was met.
pub record IsSearched (problem : Problem) (found : List (List (Option Route))) (cases : List Case) (tied : Bool) : Type 0 where
  pub rules : (case : Case) → Contains cases case → IsCase problem case
  pub untied : tied ≡ false → (case : Case) → Contains cases case → HasNoTie problem case.labels
  pub apart : AreApart problem cases
  pub stable : (labels : List (Option Route)) → Contains found labels → IsStable problem labels
  pub distinct : (i j : ℕ) (first second : List (Option Route)) → i < j → slice_get found i ≡ Some first → slice_get found j ≡ Some second →
      ¬ HaveEqualKeys problem first second
  pub new : (labels : List (Option Route)) (case : Case) → Contains found labels → Contains cases case → ¬ Admits problem case labels
  pub all : (labels : List (Option Route)) → IsStable problem labels → HasMemberLike problem found labels ⊎ HasCaseFor problem cases labels
  pub weak : tied ≡ false → (labels : List (Option Route)) → IsWeaklyStable problem labels →
      HasMemberAsWeak problem found labels ⊎ HasCaseFor problem cases labels
