-- Folding gives one list of labels, and so does lifting.
use Rattle.std.specs.Prelude.{◌≡◌, ℕ, List, Option}
use Rattle.srp_core.specs.declared.route.Route.{Route}
use Rattle.srp_core.specs.Problem.{Problem, IsProblem}
use Rattle.srp_core.specs.Quotient.{IsAdmissible, IsQuotient}
use Rattle.srp_core.specs.Stability.{IsStable}
use Rattle.solution_lift.specs.Carried.{IsFolding, IsLifting}

abbrev pub FoldingIsOne : Type 0
FoldingIsOne = (problem small : Problem) (groups : List ℕ) (labels : List (Option Route)) → IsProblem problem → IsProblem small → IsAdmissible problem groups →
    IsQuotient problem groups small → IsStable problem labels
    → (first second : List (Option Route)) → IsFolding problem small groups labels first → IsFolding problem small groups labels second → first ≡ second

abbrev pub LiftingIsOne : Type 0
LiftingIsOne = (problem small : Problem) (groups : List ℕ) (lower : List (Option Route)) → IsProblem problem → IsProblem small → IsAdmissible problem groups →
    IsQuotient problem groups small → IsStable small lower
    → (first second : List (Option Route)) → IsLifting problem small groups lower first → IsLifting problem small groups lower second → first ≡ second
