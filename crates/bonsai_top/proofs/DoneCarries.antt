-- An answer of `fold` or `lift` that is done has bytes and no line.
use Rattle.std.proofs.Common.{◌≡◌, ℕ, List, inl, inr, sym, ap, ◌∙◌, Option, Some, None, Result, Ok, Err}
use Rattle.cfg_ast.specs.declared.classes.DestClass.{DestClass}
use Rattle.cfg_ast.specs.declared.network.Network.{Network}
use Rattle.cfg_ast.specs.meaning.Classes.{classes_of}
use Rattle.srp_core.specs.declared.route.Route.{Route}
use Rattle.srp_core.specs.Problem.{Problem}
use Rattle.solution_check.specs.declared.judgement.Answer.{Answer}
use Rattle.solution_check.specs.declared.judgement.Answer.TheVariants.{Stable, Not}
use Rattle.solution_text.specs.declared.refusal.SolRefusal.{SolRefusal}
use Rattle.solution_text.specs.declared.refusal.SolRefusal.TheVariants as sol_refusal
use Rattle.solution_text.specs.Printed.{labels_text}
use Rattle.solution_text.specs.Solutions.{labels_of_text}
use Rattle.answer_kit.specs.declared.status.Status.TheVariants.{Done}
use Rattle.answer_kit.specs.ClassNumbers.{class_at, no_class, IsOfClass}
use Rattle.answer_kit.specs.Outcome.{Outcome, done, refused, not_stable}
use Rattle.answer_kit.specs.SecondFiles.{IsOfLabels, IsOfSolution, long_solution, solution_reason}
use Rattle.answer_solutions.specs.Carries.{IsIfStable, IsFolded, IsLifted, IsFoldOfLabels, IsLiftOfLabels, IsFoldOf, IsLiftOf, IsFoldAnswer, IsLiftAnswer}
use Rattle.answer_solutions.specs.Checks.{break_reason}

-- what is reported where it is reported that the work is done
abbrev IsDone : (Outcome → Type 0) → Type 0
IsDone IsAllowed = (o : Outcome) → o.status ≡ Done → IsAllowed o → o ≡ done o.out

of_bytes : (bytes : List ℕ) (o : Outcome) → o ≡ done bytes → o ≡ done o.out
of_bytes bytes o is = is ∙ ap (λ (x : Outcome). done x.out) (sym is)

not_refused : (reason : List ℕ) (o : Outcome) → o.status ≡ Done → o ≡ refused reason → ⊥
not_refused reason o status is = (let s : (refused reason).status ≡ Done = ap (λ (x : Outcome). x.status) (sym is) ∙ status in cc)

not_broken : (reason : List ℕ) (o : Outcome) → o.status ≡ Done → o ≡ not_stable reason → ⊥
not_broken reason o status is = (let s : (not_stable reason).status ≡ Done = ap (λ (x : Outcome). x.status) (sym is) ∙ status in cc)

of_stable : (problem : Problem) (IsAllowed : Outcome → Type 0) → IsDone IsAllowed → (answer : Answer) → IsDone (IsIfStable problem IsAllowed answer)
of_stable problem IsAllowed well Stable o status is = well o status is
of_stable problem IsAllowed well (Not router why) o status is = absurd (not_broken (break_reason problem router why) o status is)

module _ (A : List (Option Route) → Outcome → Type 0) (well : (labels : List (Option Route)) → IsDone (A labels)) where
  of_labels : (r : Result (List (Option Route)) SolRefusal) → IsDone (IsOfLabels A r)
  of_labels (Ok labels) o status is = well labels o status is
  of_labels (Err (sol_refusal.At line kind)) o status is = absurd (not_refused (solution_reason line kind) o status is)
  of_labels (Err sol_refusal.Memory) o status is = absurd is

  of_solution : (problem : Problem) (text : List ℕ) → IsDone (IsOfSolution problem (Some text) A)
  of_solution problem text o status (inl long) = absurd (not_refused long_solution o status long.1)
  of_solution problem text o status (inr short) = of_labels (labels_of_text problem.protocol problem.names text) o status short.1

of_class : (found : Option DestClass) (number : ℕ) (A : DestClass → Outcome → Type 0) → ((class : DestClass) → IsDone (A class))
    → IsDone (IsOfClass found number A)
of_class None number A well o status is = absurd (not_refused (no_class number) o status is)
of_class (Some class) number A well o status is = well class o status is

pub fold_is_done : (n : Network) (number : ℕ) (text : List ℕ) → IsDone (IsFoldAnswer n number (Some text))
fold_is_done n number text = of_class (class_at (classes_of n) number) number (IsFoldOf n (Some text)) (λ class o status is.
    of_solution (IsFoldOfLabels is.sides) (λ labels p done_status x.
    of_stable is.sides.problem (IsFolded is.sides labels) (λ q q_status y. of_bytes (labels_text is.sides.small.names y.lower) q y.written) x.answer p
    done_status x.told) is.sides.problem text o status is.solution)

pub lift_is_done : (n : Network) (number : ℕ) (text : List ℕ) → IsDone (IsLiftAnswer n number (Some text))
lift_is_done n number text = of_class (class_at (classes_of n) number) number (IsLiftOf n (Some text)) (λ class o status is.
    of_solution (IsLiftOfLabels is.sides) (λ lower p done_status x.
    of_stable is.sides.small (IsLifted is.sides lower) (λ q q_status y. of_bytes (labels_text is.sides.problem.names y.labels) q y.written) x.answer p
    done_status x.told) is.sides.small text o status is.solution)
