-- What `run` writes behind the line `rest` is read back and stable.
use Rattle.std.proofs.Common.{◌≡◌, ◌≤◌, inl, inr, ℕ, true, List, [], ◌∷◌, ◌++◌, length, refl, sym, ap, ◌∙◌, subst, arith, Option, Some, None, Result, Ok, Err, codes}
use Rattle.std.specs.Prelude.{slice_index_or}
use Rattle.std.specs.List.{AllByRecursion}
use Rattle.cfg_ast.specs.meaning.Classes.{classes_of}
use Rattle.cfg_ast.specs.text.Words.{is_router_name}
use Rattle.given_laws.specs.Laws.{GivenIsWellFormed}
use Rattle.reading_laws.specs.WellRead.{WhatIsReadIsWell}
use Rattle.srp_core.specs.declared.route.Route.{Route}
use Rattle.srp_core.specs.Problem.{Problem, count}
use Rattle.srp_core.specs.Stability.{IsStable}
use Rattle.srp_core.proofs.AlikeOf.{one_problem as problems_alike}
use Rattle.solution_length.specs.Laws.{most_bytes, StableTextIsShort}
use Rattle.solution_round_trip.specs.Laws.{AreNames, PrintedSolutionIsReadBack, StableIsInRange}
use Rattle.solution_text.specs.Printed.{labels_text}
use Rattle.solution_text.specs.Solutions.{labels_of_text}
use Rattle.route_run.specs.declared.schedule.Activation.{Activation}
use Rattle.route_run.specs.declared.schedule.ScheduleRefusal.{ScheduleRefusal}
use Rattle.route_run.specs.declared.schedule.ScheduleRefusal.TheVariants as schedule_refusal
use Rattle.route_run.specs.Activations.{labels_after, no_labels}
use Rattle.route_run.specs.Schedules.{run_of, schedule_of_text}
use Rattle.answer_kit.specs.ClassNumbers.{class_at}
use Rattle.answer_kit.specs.Outcome.{Outcome, done}
use Rattle.answer_kit.specs.SecondFiles.{solution_limit, IsOfSecond}
use Rattle.answer_kit.proofs.NamesApart.{problem_apart}
use Rattle.answer_kit.proofs.OneClass.{some_prefix}
use Rattle.answer_runs.specs.Schedules.{long_schedule, rest_line, schedule_limit, schedule_reason}
use Rattle.answer_runs.specs.Schedules.{IsMoving, IsOfActivations, IsOfSchedule, IsRunOf, IsRunAnswer}
use Rattle.answer_solutions.specs.Checks.{IsCheckAnswer}
use Rattle.answer_solutions.proofs.GroupNames.{router_names}
use Rattle.carried_laws.proofs.Carried.{not_refused}
use Rattle.workflow_laws.specs.Commands as command
use Rattle.workflow_laws.specs.Orders.{WhatRestsIsStable}
use Rattle.workflow_laws.specs.Words.{check, run}
use Rattle.workflow_laws.proofs.Answers.{answer_of, done_reading}
use Rattle.workflow_laws.proofs.Named.{names_check, names_run}
use Rattle.workflow_laws.proofs.SomeClass.{has_class, some_class}
use Rattle.workflow_laws.proofs.Told.{text_told_stable}
use Rattle.workflow_laws.proofs.Up.{check_of}

abbrev rested : List ℕ → List ℕ
rested written = codes "rest\n" ++ written

-- stable labels were written
pub record AreRested (P : Problem) (written : List ℕ) : Type 0 where
  pub labels : List (Option Route)
  pub stable : IsStable P labels
  pub is : written ≡ labels_text P.names labels

same_end : (written other : List ℕ) → done (rested written) ≡ done (rested other) → written ≡ other
same_end written other same = let out : rested written ≡ rested other = ap (λ (o : Outcome). o.out) same in cc

abbrev first_of : List ℕ → ℕ
first_of [] = 0
first_of (byte ∷ bytes) = byte

not_moving : (written other : List ℕ) → done (rested written) ≡ done (codes "moving " ++ other) → ⊥
not_moving written other same =
    let out : rested written ≡ codes "moving " ++ other = ap (λ (o : Outcome). o.out) same in
    let first : 114 ≡ 109 = ap first_of out in
    omega (arith, first)

module _ (P : Problem) (written : List ℕ) where
  of_rest : (labels : List (Option Route)) (moving : Option ℕ) → IsMoving P labels moving
      → done (rested written) ≡ done (rest_line P moving ++ labels_text P.names labels) → AreRested P written
  of_rest labels None stable told = record { labels = labels; stable = stable; is = same_end written (labels_text P.names labels) told }
  of_rest labels (Some router) moving told = absurd (not_moving written ((slice_index_or P.names router [] ++ codes "\n") ++ labels_text P.names labels) told)

  of_schedule : (r : Result (List Activation) ScheduleRefusal) → IsOfActivations P r (done (rested written)) → AreRested P written
  of_schedule (Ok schedule) is = of_rest (labels_after P (no_labels P) (run_of (count P) schedule)) is.moving is.is is.told
  of_schedule (Err (schedule_refusal.UnknownRouter line)) is = absurd (not_refused (rested written) (schedule_reason line) is)
  of_schedule (Err schedule_refusal.Memory) is = absurd is

  pub are_rested : (schedule : List ℕ) → IsOfSecond schedule_limit long_schedule (Some schedule) (IsOfSchedule P) (done (rested written)) → AreRested P written
  are_rested schedule (inl long) = absurd (not_refused (rested written) long_schedule long.1)
  are_rested schedule (inr is) = of_schedule (schedule_of_text P.names schedule) is.1

-- what is printed of stable labels is no longer than a solution may be
pub fits_solution : (written printed : List ℕ) → written ≡ printed → length printed ≤ most_bytes → length written ≤ solution_limit
fits_solution written printed same few = subst (λ (bytes : List ℕ). length bytes ≤ solution_limit) (sym same) (omega (arith, few))

pub what_rests_is_stable : WhatIsReadIsWell → GivenIsWellFormed → PrintedSolutionIsReadBack → StableIsInRange → StableTextIsShort → WhatRestsIsStable
what_rests_is_stable well formed printed range few contents F S T text schedule written N small holds told x kept checked y =
    let d = done_reading (run F N T) contents (command.Run N) refl (names_run F T N small) text holds (rested written) x in
    let n = d.network in
    let read = well text n d.read in
    let r = some_class n N (IsRunOf n (Some schedule)) (rested written) (class_at (classes_of n) N) refl
    (subst (λ (s : Option (List ℕ)). IsRunAnswer n N s (done (rested written))) told d.over.answer) in
    let answer = answer_of (check F N S) contents (command.Check N) refl (names_check F S N small) text holds checked n d.read d.over.short y in
    let k = check_of n N r.class (Some written) checked r.class_is (subst (λ (s : Option (List ℕ)). IsCheckAnswer n N s checked) kept answer) in
    let has = has_class n N r.class r.class_is in
    let p = some_prefix n r.class has in
    let P = r.allowed.problem in
    let own = r.allowed.of_class p.0 p.1 in
    let alike = problems_alike n p.0 P k.problem own (k.of_class p.0 p.1) in
    let names : AreNames P.names = record {
      each = subst (AllByRecursion (λ (name : List ℕ). is_router_name name ≡ true)) (sym own.names)
          (router_names n.routers (formed n ∣ (text, read.given) ∣₁).routers);
      apart = problem_apart n read.faultless r.class has P r.allowed.of_class;
    } in
    let a = are_rested P written schedule r.allowed.ran in
    let in_range = range n ∣ (text, read.given) ∣₁ p.0 P a.labels own a.stable in
    let short = fits_solution written (labels_text P.names a.labels) a.is (few n ∣ (text, read.given) ∣₁ read.faultless p.0 P a.labels own a.stable) in
    let as_many = a.stable.fitting.total ∙ sym own.rules.tables.names in
    let reads = ap (labels_of_text P.protocol P.names) a.is ∙ printed P.protocol P.names a.labels names as_many in_range in
    text_told_stable P k.problem alike own.rules a.labels a.stable written checked short reads k.solution
