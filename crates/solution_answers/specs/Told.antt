-- What has been reported of the solutions that were seen.
use Rattle.std.specs.Prelude.{◌≡◌, ℕ, Bool, List, length, Option}
use Rattle.srp_core.specs.declared.route.Route.{Route}
use Rattle.srp_core.specs.Problem.{Problem}
use Rattle.solution_answers.specs.Pairwise.{Pairwise}
use Rattle.solution_answers.specs.Solutions.{IsLabelsText, IsHopsText, solution_texts}
use Rattle.solution_answers.specs.declared.told.Told.{Told}
use Rattle.solution_answers.specs.declared.told.Told.TheVariants as told

-- what is reported of labels
abbrev pub IsToldAs : Told → Problem → List (Option Route) → List ℕ → Type 0
IsToldAs told.Labels problem labels text = IsLabelsText problem labels text
IsToldAs told.Hops problem labels text = IsHopsText problem labels text

-- the texts of these solutions stand there, so many
pub record HasTold (problem : Problem) (as_what : Told) (one : Bool) (number count : ℕ) (bytes : List ℕ) (found : List (List (Option Route))) : Type 0 where
  pub texts : List (List ℕ)
  pub told : Pairwise (IsToldAs as_what problem) found texts
  pub count_is : count ≡ length texts
  pub bytes_are : bytes ≡ solution_texts one number texts
