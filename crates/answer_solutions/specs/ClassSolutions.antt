-- The outcomes of a command that takes a class and the labels in a second file, as `check` and `reach` do. Such commands begin
-- alike: they build the problem of the class and read the file as labels of its routers. `IsAllowed` says what one of them may
-- report of the labels then.
use Rattle.std.specs.Prelude.{ℕ, List, Option}
use Rattle.cfg_ast.specs.declared.network.Network.{Network}
use Rattle.cfg_ast.specs.declared.classes.DestClass.{DestClass}
use Rattle.srp_core.specs.declared.route.Route.{Route}
use Rattle.srp_core.specs.Problem.{Problem}
use Rattle.answer_kit.specs.Outcome.{Outcome}
use Rattle.answer_kit.specs.Groups.{IsProblemOfClass}
use Rattle.answer_kit.specs.SecondFiles.{IsOfSolution}

-- The class has a problem. If the second file gives labels of it, the outcome is one that is allowed for them; if it gives none,
-- the outcome is its refusal. Where the file is not known, any outcome is allowed.
pub record IsOfClassSolution (IsAllowed : Problem → List (Option Route) → Outcome → Type 0) (network : Network) (second : Option (List ℕ))
    (class : DestClass) (o : Outcome) : Type 0 where
  pub problem : Problem
  pub of_class : IsProblemOfClass network class problem
  pub solution : IsOfSolution problem second (IsAllowed problem) o
