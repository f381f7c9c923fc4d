-- What `run` tells of a class is determined.
use Rattle.std.proofs.Common.{◌≡◌, ◌++◌, ℕ, List, [], refl, sym, ap, ◌∙◌, subst, codes, Option, Some, None, Result, Ok, Err}
use Rattle.std.specs.Prelude.{Contains, IsSome, slice_index_or}
use Rattle.cfg_ast.specs.declared.network.Network.{Network}
use Rattle.cfg_ast.specs.declared.classes.DestClass.{DestClass}
use Rattle.cfg_ast.specs.meaning.Classes.{classes_of}
use Rattle.srp_core.specs.declared.route.Route.{Route}
use Rattle.srp_core.specs.Alike.{ProblemsAlike}
use Rattle.srp_core.specs.Problem.{Problem, count, IsProblem}
use Rattle.srp_core.specs.Stability.{AreLabels}
use Rattle.srp_core.proofs.Alike.{turned}
use Rattle.srp_core.proofs.AlikeOf.{one_problem}
use Rattle.solution_text.specs.Printed.{labels_text}
use Rattle.route_run.specs.declared.schedule.Activation.{Activation}
use Rattle.route_run.specs.declared.schedule.ScheduleRefusal.{ScheduleRefusal}
use Rattle.route_run.specs.declared.schedule.ScheduleRefusal.TheVariants as schedule_refusal
use Rattle.route_run.specs.Activations.{labels_after, no_labels}
use Rattle.route_run.specs.Schedules.{run_of, schedule_of_text}
use Rattle.route_run.proofs.AlikeRuns.{run_same, moving_same, rest_same}
use Rattle.route_run.proofs.AtRest.{after_labels, no_labels_fit}
use Rattle.answer_kit.specs.Outcome.{Outcome, done}
use Rattle.answer_kit.proofs.OneClass.{some_prefix}
use Rattle.answer_kit.proofs.OneText.{one_of_second}
use Rattle.answer_runs.specs.Schedules.{schedule_limit, long_schedule, rest_line, IsMoving, IsRest, IsOfActivations, IsOfSchedule, IsRunOf}

module _ (P Q : Problem) (same : ProblemsAlike P Q) (rules : IsProblem P) (other : IsProblem Q) where
  line_same : (moving : Option ℕ) → rest_line P moving ≡ rest_line Q moving
  line_same None = refl
  line_same (Some router) = ap (λ (names : List (List ℕ)). codes "moving " ++ slice_index_or names router [] ++ codes "\n") same.names

  one_state : (labels : List (Option Route)) → AreLabels P labels → AreLabels Q labels → (a b : Option ℕ) → IsMoving P labels a → IsMoving Q labels b → a ≡ b
  one_state labels fits fits' None None x y = refl
  one_state labels fits fits' None (Some v) x y = absurd (rest_same P Q same labels fits v x y)
  one_state labels fits fits' (Some u) None x y = absurd (rest_same Q P (turned P Q same) labels fits' u y x)
  one_state labels fits fits' (Some u) (Some v) x y = ap Some (moving_same P Q same labels fits u v x y)

  one_rest : (labels : List (Option Route)) → AreLabels P labels → AreLabels Q labels → (o p : Outcome) → IsRest P labels o → IsRest Q labels p → o ≡ p
  one_rest labels fits fits' o p x y =
      x.told
      ∙ ap (λ (m : Option ℕ). done (rest_line P m ++ labels_text P.names labels)) (one_state labels fits fits' x.moving y.moving x.is y.is)
      ∙ ap (λ (line : List ℕ). done (line ++ labels_text P.names labels)) (line_same y.moving)
      ∙ ap (λ (names : List (List ℕ)). done (rest_line Q y.moving ++ labels_text names labels)) same.names
      ∙ sym y.told

  one_activations : (r : Result (List Activation) ScheduleRefusal) (o p : Outcome) → IsOfActivations P r o → IsOfActivations Q r p → o ≡ p
  one_activations (Ok schedule) o p x y =
      let run = run_of (count P) schedule in
      let counts : count Q ≡ count P = ap (λ (numbers : List ℕ). Rattle.std.proofs.Common.length numbers) (sym same.numbers) in
      let labels : labels_after Q (no_labels Q) (run_of (count Q) schedule) ≡ labels_after P (no_labels P) (run_of (count P) schedule) =
      ap (λ n. labels_after Q (no_labels Q) (run_of n schedule)) counts ∙ sym (run_same P Q same rules (run_of (count P) schedule)) in
      one_rest (labels_after P (no_labels P) (run_of (count P) schedule)) (after_labels P rules (run_of (count P) schedule) (no_labels P) (no_labels_fit P))
      (subst (AreLabels Q) labels (after_labels Q other (run_of (count Q) schedule) (no_labels Q) (no_labels_fit Q))) o p x
      (subst (λ (l : List (Option Route)). IsRest Q l p) labels y)
  one_activations (Err (schedule_refusal.UnknownRouter line)) o p x y = x ∙ sym y
  one_activations (Err schedule_refusal.Memory) o p x y = absurd x

  one_schedule : (text : List ℕ) (o p : Outcome) → IsOfSchedule P text o → IsOfSchedule Q text p → o ≡ p
  one_schedule text o p x y =
      one_activations (schedule_of_text P.names text) o p x (subst (λ (r : Result (List Activation) ScheduleRefusal). IsOfActivations Q r p)
      (ap (λ (names : List (List ℕ)). schedule_of_text names text) (sym same.names)) y)

pub one_run : (n : Network) (class : DestClass) → Contains (classes_of n) class → (second : Option (List ℕ)) → IsSome second → (o p : Outcome)
    → IsRunOf n second class o → IsRunOf n second class p → o ≡ p
one_run n class c second told o p x y =
    let prefix = some_prefix n class c in
    let first = x.of_class prefix.0 prefix.1 in
    let other = y.of_class prefix.0 prefix.1 in
    let same = one_problem n prefix.0 x.problem y.problem first other in
    one_of_second schedule_limit long_schedule (IsOfSchedule x.problem) (IsOfSchedule y.problem) second told o p
    (λ text a b. one_schedule x.problem y.problem same first.rules other.rules text o p a b) x.ran y.ran
