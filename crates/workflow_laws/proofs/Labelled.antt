-- What `check`, `reach` and `run` are to write of a problem: there is such an outcome for each second file that is known.
use Rattle.std.proofs.Common.{◌≡◌, ◌⊎◌, inl, inr, ℕ, zero, suc, ◌<◌, ◌≤◌, List, [], ◌∷◌, ◌++◌, length, refl, sym, ap, subst, arith, Option, Some}
use Rattle.std.proofs.Common.{None, Result, Ok, Err}
use Rattle.std.specs.Prelude.{IsSome, replicate, slice_set}
use Rattle.std.proofs.lemmas.Bool.{cases_eq, cases_lt}
use Rattle.srp_core.specs.declared.route.Route.{Route}
use Rattle.srp_core.specs.Problem.{Problem, count, IsProblem}
use Rattle.srp_core.specs.Stability.{label, AreLabels, IsStable}
use Rattle.solution_check.specs.declared.judgement.Answer.{Answer}
use Rattle.solution_check.specs.declared.judgement.Answer.TheVariants.{Stable, Not}
use Rattle.solution_text.specs.declared.refusal.SolRefusal.{SolRefusal}
use Rattle.solution_text.specs.declared.refusal.SolRefusal.TheVariants as sol_refusal
use Rattle.solution_text.specs.Printed.{labels_text}
use Rattle.solution_text.specs.Solutions.{labels_of_text}
use Rattle.route_run.specs.declared.schedule.Activation.{Activation}
use Rattle.route_run.specs.declared.schedule.ScheduleRefusal.{ScheduleRefusal}
use Rattle.route_run.specs.declared.schedule.ScheduleRefusal.TheVariants as schedule_refusal
use Rattle.route_run.specs.Activations.{chosen_label, labels_after, no_labels, IsAtRest, IsFirstMoving}
use Rattle.route_run.specs.Orders.{IsOrderOf}
use Rattle.route_run.specs.Schedules.{activation_of, before, or_unknown, run_of, schedule_of_text, schedule_of_words, words_of_text, LineWord}
use Rattle.answer_kit.specs.Outcome.{Outcome, done, not_stable, refused}
use Rattle.answer_kit.specs.SecondFiles.{long_solution, solution_limit, solution_reason, IsOfLabels, IsOfSecond, IsOfSolution}
use Rattle.answer_runs.specs.Reaches.{name_lines, IsReach, IsToldOf}
use Rattle.answer_runs.specs.Schedules.{long_schedule, rest_line, schedule_limit, schedule_reason, IsMoving, IsOfActivations, IsOfSchedule}
use Rattle.answer_solutions.specs.Checks.{break_reason, told_of, IsJudgement}
use Rattle.workflow_laws.proofs.Decided.{dec_label, is_judged, Dec, IsComplete, IsSound}
use Rattle.workflow_laws.proofs.ReadLabels.{are_labels, no_memory}

-- some outcome that is allowed
abbrev pub SomeOf : (Outcome → Type 0) → Type 0
SomeOf IsAllowed = (o : Outcome) × IsAllowed o

-- ---- over the labels of a text

module _ (P : Problem) (rules : IsProblem P) (A : List (Option Route) → Outcome → Type 0)
    (work : (labels : List (Option Route)) → AreLabels P labels → SomeOf (A labels)) where
  of_result : (text : List ℕ) (r : Result (List (Option Route)) SolRefusal) → labels_of_text P.protocol P.names text ≡ r → SomeOf (IsOfLabels A r)
  of_result text (Ok labels) e = work labels (are_labels P rules.tables text labels e)
  of_result text (Err (sol_refusal.At line kind)) e = (refused (solution_reason line kind), refl)
  of_result text (Err sol_refusal.Memory) e = absurd (no_memory P.protocol P.names text e)

  pub of_solution : (second : Option (List ℕ)) → IsSome second → SomeOf (IsOfSolution P second A)
  of_solution None told = absurd cc
  of_solution (Some text) told = elim (cases_lt solution_limit (length text)) [
    | inl long ↦ (refused long_solution, inl (long, refl))
    | inr short ↦ (let o = of_result text (labels_of_text P.protocol P.names text) refl in (o.0, inr (short, o.1)))
  ]

module _ (sound : IsSound) (complete : IsComplete) (P : Problem) (rules : IsProblem P) where
  pub some_check : (second : Option (List ℕ)) → IsSome second → SomeOf (IsOfSolution P second (IsJudgement P))
  some_check = of_solution P rules (IsJudgement P) (λ labels fitting. (
      let a = is_judged sound complete P labels fitting in
      (told_of P a.0, record { fitting = fitting; answer = a.0; judged = a.1; told = refl })))

  -- ---- orders

  module _ (has_order : (problem : Problem) (labels : List (Option Route)) → (run : List ℕ) × IsOrderOf problem labels run) where
    told_by : (labels : List (Option Route)) (a : Answer) → SomeOf (IsToldOf P labels a)
    told_by labels Stable = (let r = has_order P labels in (done (name_lines P r.0), record { run = r.0; is = r.1; told = refl }))
    told_by labels (Not router why) = (not_stable (break_reason P router why), refl)

    pub some_reach : (second : Option (List ℕ)) → IsSome second → SomeOf (IsOfSolution P second (IsReach P))
    some_reach = of_solution P rules (IsReach P) (λ labels fitting. (
        let a = is_judged sound complete P labels fitting in
        let o = told_by labels a.0 in
        (o.0, record { fitting = fitting; answer = a.0; judged = a.1; told = o.1 })))

-- ---- schedules

no_fault : (names : List (List ℕ)) (ws : List LineWord) → schedule_of_words names ws ≡ Err schedule_refusal.Memory → ⊥
unfolding schedule_of_words
no_fault names [] e = cc
no_fault names (w ∷ ws) e = by (activation_of names w.word) (schedule_of_words names ws) (no_fault names ws) e
  where
    by : (o : Option Activation) (later : Result (List Activation) ScheduleRefusal) → (later ≡ Err schedule_refusal.Memory → ⊥)
        → or_unknown w.line o later ≡ Err schedule_refusal.Memory → ⊥
    by None later rest e = cc
    by (Some a) (Ok schedule) rest e = cc
    by (Some a) (Err schedule_refusal.Memory) rest e = rest refl
    by (Some a) (Err (schedule_refusal.UnknownRouter line)) rest e = cc

set_same : (labels : List (Option Route)) (u : ℕ) (l : Option Route) → l ≡ label labels u → slice_set labels u l ≡ labels
set_same [] u l e = refl
set_same (x ∷ labels) zero l e = ap (λ (y : Option Route). y ∷ labels) e
set_same (x ∷ labels) (suc u) l e = ap (λ (ys : List (Option Route)). x ∷ ys) (set_same labels u l e)

module _ (P : Problem) (L : List (Option Route)) where
  abbrev IsSomeMoving : Type 0
  IsSomeMoving = (router : ℕ) × IsFirstMoving P L router

  -- the first routers stay, or one of them is the first that moves
  up_to : (n : ℕ) → n ≤ count P → ((v : ℕ) → v < n → chosen_label P L v ≡ label L v) ⊎ IsSomeMoving
  up_to zero le = inl (λ v less. absurd (omega (arith, less)))
  up_to (suc n) le = by (up_to n (omega (arith, le))) (dec_label (chosen_label P L n) (label L n))
    where
      each : ((v : ℕ) → v < n → chosen_label P L v ≡ label L v) → chosen_label P L n ≡ label L n → (v : ℕ) → v < suc n → chosen_label P L v ≡ label L v
      each before here v less = elim (cases_eq v n) [
        | inl same ↦ subst (λ w. chosen_label P L w ≡ label L w) (sym same) here
        | inr differ ↦ before v (omega (arith, less, differ))
      ]

      by : ((v : ℕ) → v < n → chosen_label P L v ≡ label L v) ⊎ IsSomeMoving → Dec (chosen_label P L n ≡ label L n)
          → ((v : ℕ) → v < suc n → chosen_label P L v ≡ label L v) ⊎ IsSomeMoving
      by (inr found) here = inr found
      by (inl before) (inl stays) = inl (each before stays)
      by (inl before) (inr moves) = inr (n, record { inside = omega (arith, le); moves = moves; before = before })

  is_rest : ((v : ℕ) → v < count P → chosen_label P L v ≡ label L v) → IsAtRest P L
  is_rest all = record { unchanged = λ u inside. set_same L u (chosen_label P L u) (all u inside) }

abbrev pub RestIsStable : Type 0
RestIsStable = (problem : Problem) (labels : List (Option Route)) (run : List ℕ) → IsProblem problem → AreLabels problem labels
    → IsAtRest problem (labels_after problem labels run) → IsStable problem (labels_after problem labels run)

none_fit : (P : Problem) → AreLabels P (no_labels P)
none_fit P = record { total = long (count P); routes = λ u r e. absurd (none (count P) u r e) }
  where
    long : (n : ℕ) → length (let labels : List (Option Route) = replicate n None in labels) ≡ n
    long zero = refl
    long (suc n) = omega (arith, long n)

    none : (n u : ℕ) (r : Route) → label (replicate n None) u ≡ Some r → ⊥
    none zero u r e = cc
    none (suc n) zero r e = cc
    none (suc n) (suc u) r e = none n u r e

module _ (rest : RestIsStable) (P : Problem) (rules : IsProblem P) where
  moving : (run : List ℕ) → (m : Option ℕ) × IsMoving P (labels_after P (no_labels P) run) m
  moving run =
      let L = labels_after P (no_labels P) run in
      elim (up_to P L (count P) (omega arith)) [
        | inl all ↦ (None, rest P (no_labels P) run rules (none_fit P) (is_rest P L all))
        | inr found ↦ (Some found.0, found.1)
      ]

  of_schedule : (text : List ℕ) (r : Result (List Activation) ScheduleRefusal) → schedule_of_text P.names text ≡ r → SomeOf (IsOfActivations P r)
  of_schedule text (Ok schedule) e =
      let run = run_of (count P) schedule in
      let m = moving run in
      (done (rest_line P m.0 ++ labels_text P.names (labels_after P (no_labels P) run)), record { moving = m.0; is = m.1; told = refl })
  of_schedule text (Err (schedule_refusal.UnknownRouter line)) e = (refused (schedule_reason line), refl)
  of_schedule text (Err schedule_refusal.Memory) e = absurd (no_fault P.names (words_of_text text) e)

  pub some_run : (second : Option (List ℕ)) → IsSome second → SomeOf (IsOfSecond schedule_limit long_schedule second (IsOfSchedule P))
  some_run None told = absurd cc
  some_run (Some text) told = elim (cases_lt schedule_limit (length text)) [
    | inl long ↦ (refused long_schedule, inl (long, refl))
    | inr short ↦ (let o = of_schedule text (schedule_of_text P.names text) refl in (o.0, inr (short, o.1)))
  ]
