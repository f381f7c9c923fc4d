-- Public: what is reported of the labels of a class that a second file gives is determined, where it is of labels.
use Rattle.std.proofs.Common.{◌≡◌, ℕ, List, Option}
use Rattle.std.specs.Prelude.{Contains, IsSome}
use Rattle.cfg_ast.specs.declared.network.Network.{Network}
use Rattle.cfg_ast.specs.declared.classes.DestClass.{DestClass}
use Rattle.cfg_ast.specs.meaning.Classes.{classes_of}
use Rattle.srp_core.specs.declared.route.Route.{Route}
use Rattle.srp_core.specs.Alike.{ProblemsAlike}
use Rattle.srp_core.specs.Problem.{Problem, IsProblem}
use Rattle.srp_core.proofs.AlikeOf.{one_problem}
use Rattle.answer_kit.specs.Outcome.{Outcome}
use Rattle.answer_kit.proofs.OneClass.{some_prefix}
use Rattle.answer_kit.proofs.OneText.{one_of_solution}
use Rattle.answer_solutions.specs.ClassSolutions.{IsOfClassSolution}

-- of labels one outcome is allowed in problems that are alike
abbrev pub IsOneOfLabels : (Problem → List (Option Route) → Outcome → Type 0) → Type 0
IsOneOfLabels IsAllowed = (P Q : Problem) → ProblemsAlike P Q → IsProblem P → (labels : List (Option Route)) (o p : Outcome)
    → IsAllowed P labels o → IsAllowed Q labels p → o ≡ p

pub one_of_class_solution : (IsAllowed : Problem → List (Option Route) → Outcome → Type 0) → IsOneOfLabels IsAllowed → (n : Network) (class : DestClass)
    → Contains (classes_of n) class → (second : Option (List ℕ)) → IsSome second → (o p : Outcome)
    → IsOfClassSolution IsAllowed n second class o → IsOfClassSolution IsAllowed n second class p → o ≡ p
one_of_class_solution IsAllowed one n class c second told o p x y =
    let prefix = some_prefix n class c in
    let first = x.of_class prefix.0 prefix.1 in
    let same = one_problem n prefix.0 x.problem y.problem first (y.of_class prefix.0 prefix.1) in
    one_of_solution x.problem y.problem same.protocol same.names (IsAllowed x.problem) (IsAllowed y.problem) (one x.problem y.problem same first.rules)
    second told o p x.solution y.solution
