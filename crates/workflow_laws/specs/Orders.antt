-- Orders: `run` of the order that `reach` writes rests in stable labels with the keys of the solution, and what rests
-- under `run` is stable under `check`.
use Rattle.std.specs.Prelude.{◌≡◌, ℕ, List, ◌++◌, Option, Some, Ok, codes}
use Rattle.srp_core.specs.declared.route.Route.{Route}
use Rattle.srp_core.specs.Problem.{Problem}
use Rattle.route_run.specs.Orders.{IsSolutionLike}
use Rattle.solution_text.specs.Printed.{labels_text}
use Rattle.solution_text.specs.Solutions.{labels_of_text}
use Rattle.answer_kit.specs.Groups.{IsProblemOfClass}
use Rattle.answer_kit.specs.Outcome.{Outcome, done}
use Rattle.bonsai_top.specs.Outcomes.{IsOutcome}
use Rattle.workflow_laws.specs.Setting.{Contents, HasClass, IsShort}
use Rattle.workflow_laws.specs.Words.{check, run, reach}

-- The text has a class of the number. The outcome has the first line `rest`, and behind it labels that are stable in the
-- problem of the class and have the keys of the solution.
pub record RestsLike (text : List ℕ) (number : ℕ) (solution : List ℕ) (o : Outcome) : Type 0 where
  pub of_text : HasClass text number
  pub problem : Problem
  pub of_class : IsProblemOfClass of_text.network of_text.class problem
  pub given : List (Option Route)
  pub read : labels_of_text problem.protocol problem.names solution ≡ Ok given
  pub reached : List (Option Route)
  pub like : IsSolutionLike problem given reached
  pub told : o ≡ done (codes "rest\n" ++ labels_text problem.names reached)

-- What `reach F N S` writes rests under `run F N` in labels that are stable and have the keys of S.
abbrev pub WhatIsReachedRests : Type 0
WhatIsReachedRests = (contents : Contents) (F S T text solution order : List ℕ) (N : ℕ) → IsShort N → contents F ≡ Some text → contents S ≡ Some solution
    → IsOutcome (reach F N S) contents (done order) → contents T ≡ Some order
    → (ran : Outcome) → IsOutcome (run F N T) contents ran → RestsLike text N solution ran

-- What `run F N T` writes behind the first line `rest` is stable under `check F N`, whatever the schedule T.
abbrev pub WhatRestsIsStable : Type 0
WhatRestsIsStable = (contents : Contents) (F S T text schedule written : List ℕ) (N : ℕ) → IsShort N → contents F ≡ Some text → contents T ≡ Some schedule
    → IsOutcome (run F N T) contents (done (codes "rest\n" ++ written)) → contents S ≡ Some written
    → (checked : Outcome) → IsOutcome (check F N S) contents checked → checked ≡ done (codes "stable\n")
