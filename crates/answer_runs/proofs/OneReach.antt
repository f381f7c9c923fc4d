-- What `reach` tells of a class is determined.
use Rattle.std.proofs.Common.{◌≡◌, ◌++◌, ◌<◌, ℕ, List, [], length, sym, ap, ◌∙◌, subst, codes, Option}
use Rattle.std.specs.Prelude.{Contains, IsSome, All, flat_map, slice_index_or}
use Rattle.cfg_ast.specs.declared.network.Network.{Network}
use Rattle.cfg_ast.specs.declared.classes.DestClass.{DestClass}
use Rattle.cfg_ast.specs.meaning.Classes.{classes_of}
use Rattle.srp_core.specs.declared.route.Route.{Route}
use Rattle.srp_core.specs.Alike.{ProblemsAlike}
use Rattle.srp_core.specs.Problem.{Problem, count, IsProblem}
use Rattle.solution_check.specs.declared.judgement.Answer.{Answer}
use Rattle.solution_check.specs.declared.judgement.Answer.TheVariants.{Stable, Not}
use Rattle.solution_check.proofs.OneAnswer.{one_answer}
use Rattle.route_run.specs.Orders.{IsOrderOf}
use Rattle.route_run.proofs.OneOrder.{one_order}
use Rattle.answer_kit.specs.Outcome.{Outcome, done, not_stable}
use Rattle.answer_solutions.specs.Checks.{name_of_break}
use Rattle.answer_solutions.proofs.OneOfSolution.{one_of_class_solution}
use Rattle.answer_runs.specs.Reaches.{name_lines, IsToldOf, IsReach, IsReachOf}

module _ (P Q : Problem) (same : ProblemsAlike P Q) (rules : IsProblem P) where
  counts : count Q ≡ count P
  counts = ap length (sym same.numbers)

  pub order_too : (labels : List (Option Route)) (run : List ℕ) → IsOrderOf Q labels run → IsOrderOf P labels run
  order_too labels run order = record {
    each = λ u h. order.each u (subst (λ n. u < n) (sym counts) h);
    only = subst (λ n. All (λ u. u < n) run) counts order.only;
    sorted = order.sorted;
  }

  lines_same : (run : List ℕ) → name_lines P run ≡ name_lines Q run
  lines_same run = ap (λ (names : List (List ℕ)). flat_map (λ router. slice_index_or names router [] ++ codes "\n") run) same.names

  one_told : (labels : List (Option Route)) (a : Answer) (o p : Outcome) → IsToldOf P labels a o → IsToldOf Q labels a p → o ≡ p
  one_told labels Stable o p x y =
      x.told ∙ ap (λ (run : List ℕ). done (name_lines P run)) (one_order labels P x.run y.run x.is (order_too labels y.run y.is)) ∙ ap done (lines_same y.run)
      ∙ sym y.told
  one_told labels (Not router why) o p x y = x ∙ ap (λ (names : List (List ℕ)). not_stable (slice_index_or names router [] ++ codes " " ++ name_of_break why))
      same.names ∙ sym y

  one_reach_of : (labels : List (Option Route)) (o p : Outcome) → IsReach P labels o → IsReach Q labels p → o ≡ p
  one_reach_of labels o p x y =
      one_told labels x.answer o p x.told (subst (λ (a : Answer). IsToldOf Q labels a p)
      (sym (one_answer P Q labels rules same x.fitting x.answer y.answer x.judged y.judged)) y.told)

pub one_reach : (n : Network) (class : DestClass) → Contains (classes_of n) class → (second : Option (List ℕ)) → IsSome second → (o p : Outcome)
    → IsReachOf n second class o → IsReachOf n second class p → o ≡ p
one_reach = one_of_class_solution IsReach one_reach_of
