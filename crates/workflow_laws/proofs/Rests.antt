-- `run` of the order that `reach` writes rests.
use Rattle.std.proofs.Common.{◌≡◌, ◌≤◌, ◌<◌, inl, inr, ℕ, suc, List, [], ◌∷◌, ◌++◌, length, map, flat_map, true, refl, sym, ap, ◌∙◌, subst, arith, Option, Some, None, Result, Ok, Err, codes}
use Rattle.std.specs.Prelude.{All, slice_index_or}
use Rattle.std.specs.List.{AllByRecursion}
use Rattle.cfg_ast.specs.declared.classes.DestClass.{DestClass}
use Rattle.cfg_ast.specs.meaning.Classes.{classes_of}
use Rattle.cfg_check.proofs.Faultless.{few_routers}
use Rattle.given_laws.specs.Laws.{GivenIsWellFormed}
use Rattle.std.proofs.lemmas.List.{length-map}
use Rattle.cfg_ast.specs.declared.network.Router.{Router}
use Rattle.cfg_ast.specs.text.Words.{is_router_name}
use Rattle.reading_laws.specs.WellRead.{WhatIsReadIsWell}
use Rattle.srp_core.specs.declared.route.Route.{Route}
use Rattle.srp_core.specs.Problem.{Problem, count, IsProblem}
use Rattle.srp_core.specs.Alike.{ProblemsAlike}
use Rattle.srp_core.specs.Stability.{IsStable}
use Rattle.srp_core.proofs.Alike.{turned, same_stable}
use Rattle.srp_core.proofs.AlikeOf.{one_problem as problems_alike}
use Rattle.base_kit.specs.Names.{AreApart}
use Rattle.solution_check.specs.declared.judgement.Answer.{Answer}
use Rattle.solution_check.specs.declared.judgement.Answer.TheVariants.{Stable, Not}
use Rattle.solution_check.specs.Breaks.{Judges}
use Rattle.solution_text.specs.declared.refusal.SolRefusal.{SolRefusal}
use Rattle.solution_text.specs.declared.refusal.SolRefusal.TheVariants as sol_refusal
use Rattle.solution_text.specs.Printed.{labels_text}
use Rattle.solution_text.specs.Solutions.{labels_of_text}
use Rattle.route_run.specs.declared.schedule.Activation.{Activation}
use Rattle.route_run.specs.declared.schedule.Activation.TheVariants.{One}
use Rattle.route_run.specs.declared.schedule.ScheduleRefusal.{ScheduleRefusal}
use Rattle.route_run.specs.Activations.{labels_after, no_labels}
use Rattle.route_run.specs.Orders.{IsOrderOf}
use Rattle.route_run.specs.Schedules.{run_of, schedule_of_text}
use Rattle.route_run.proofs.AlikeRuns.{rest_same}
use Rattle.route_run.proofs.Reaching.{order_reaches}
use Rattle.answer_runs.proofs.OneReach.{order_too}
use Rattle.answer_kit.specs.Groups.{IsProblemOfClass}
use Rattle.answer_kit.specs.declared.status.Status.TheVariants.{Done, NotStable}
use Rattle.answer_kit.specs.ClassNumbers.{class_at, IsOfClass}
use Rattle.answer_kit.specs.Outcome.{Outcome, done, not_stable}
use Rattle.answer_kit.specs.SecondFiles.{long_solution, solution_reason, IsOfLabels, IsOfSolution, IsOfSecond}
use Rattle.answer_kit.proofs.NamesApart.{problem_apart}
use Rattle.answer_kit.proofs.OneClass.{some_prefix}
use Rattle.answer_runs.specs.Reaches.{name_lines, IsToldOf, IsReach, IsReachOf, IsReachAnswer}
use Rattle.answer_runs.specs.Schedules.{schedule_limit, long_schedule, IsMoving, rest_line, IsRest, IsOfActivations, IsOfSchedule, IsRunOf, IsRunAnswer}
use Rattle.answer_solutions.specs.Checks.{break_reason}
use Rattle.answer_solutions.proofs.GroupNames.{router_names}
use Rattle.answer_solutions.proofs.OneCarry.{problem_self}
use Rattle.carried_laws.proofs.Carried.{not_refused}
use Rattle.workflow_laws.specs.Commands as command
use Rattle.workflow_laws.specs.Orders.{RestsLike, WhatIsReachedRests}
use Rattle.workflow_laws.specs.Setting.{HasClass}
use Rattle.workflow_laws.specs.Words.{run, reach}
use Rattle.workflow_laws.proofs.Answers.{answer_of, done_reading}
use Rattle.workflow_laws.proofs.Named.{names_reach, names_run}
use Rattle.workflow_laws.proofs.Schedules.{names_are_read, run_is}
use Rattle.workflow_laws.proofs.ShortOrders.{order_short}
use Rattle.workflow_laws.proofs.SomeClass.{has_class, some_class}

name_of : Router → List ℕ
name_of r = r.name

pub not_broken : (bytes reason : List ℕ) → done bytes ≡ not_stable reason → ⊥
not_broken bytes reason same = let one : Done ≡ NotStable = ap (λ (o : Outcome). o.status) same in cc

-- ---- what was reached

-- the solution gives stable labels, and the order is theirs
pub record IsReached (P : Problem) (solution order : List ℕ) : Type 0 where
  pub labels : List (Option Route)
  pub read : labels_of_text P.protocol P.names solution ≡ Ok labels
  pub stable : IsStable P labels
  pub run : List ℕ
  pub is : IsOrderOf P labels run
  pub text : order ≡ name_lines P run

module _ (P : Problem) (solution order : List ℕ) where
  of_answer : (labels : List (Option Route)) → labels_of_text P.protocol P.names solution ≡ Ok labels → (a : Answer) → Judges P labels a
      → IsToldOf P labels a (done order) → IsReached P solution order
  of_answer labels reads Stable stable told = record {
    labels = labels;
    read = reads;
    stable = stable;
    run = told.run;
    is = told.is;
    text =
        ap (λ (o : Outcome). o.out) told.told;
  }
  of_answer labels reads (Not router why) judged told = absurd (not_broken order (break_reason P router why) told)

  of_labels : (r : Result (List (Option Route)) SolRefusal) → labels_of_text P.protocol P.names solution ≡ r → IsOfLabels (IsReach P) r (done order)
      → IsReached P solution order
  of_labels (Ok labels) reads is = of_answer labels reads is.answer is.judged is.told
  of_labels (Err (sol_refusal.At line kind)) reads is = absurd (not_refused order (solution_reason line kind) is)
  of_labels (Err sol_refusal.Memory) reads is = absurd is

  pub reached : IsOfSolution P (Some solution) (IsReach P) (done order) → IsReached P solution order
  reached (inl long) = absurd (not_refused order long_solution long.1)
  reached (inr is) = of_labels (labels_of_text P.protocol P.names solution) refl is.1

-- ---- what is run

pub from_all : (A : ℕ → Type 0) (xs : List ℕ) → All A xs → AllByRecursion A xs
from_all A [] all = tt
from_all A (x ∷ xs) all = (all 0 x (omega arith), from_all A xs (λ k d h. all (suc k) d (omega arith)))

-- stable labels rest
rests : (P : Problem) (labels : List (Option Route)) (o : Outcome) → IsProblem P → IsStable P labels → IsRest P labels o
    → o ≡ done (codes "rest\n" ++ labels_text P.names labels)
rests P labels o rules stable is = by is.moving is.is is.told
  where
    by : (moving : Option ℕ) → IsMoving P labels moving → o ≡ done (rest_line P moving ++ labels_text P.names labels)
        → o ≡ done (codes "rest\n" ++ labels_text P.names labels)
    by None moving told = told
    by (Some router) moving told = absurd (rest_same P P (problem_self P) labels stable.fitting router stable moving)

-- the schedule's text is read as the run, which leads to labels like the solution
runs_to_rest : (P Q : Problem) → ProblemsAlike P Q → IsProblem P → IsProblem Q → AreApart Q.names
    → AllByRecursion (λ (name : List ℕ). is_router_name name ≡ true) Q.names → (solution order : List ℕ) → IsReached P solution order → count Q ≤ 4096
    → (text : List ℕ) (number : ℕ) (h : HasClass text number) → IsProblemOfClass h.network h.class Q
    → (o : Outcome) → IsOfSecond schedule_limit long_schedule (Some order) (IsOfSchedule Q) o → RestsLike text number solution o
runs_to_rest P Q same rules other apart names solution order r few from number has of_class o (inl long) =
    let ordered = order_too Q P (turned P Q same) other r.labels r.run r.is in
    let text : order ≡ name_lines Q r.run = r.text ∙ ap (λ (ns : List (List ℕ)). flat_map (λ u. slice_index_or ns u [] ++ codes "\n") r.run) same.names in
    let short : length order ≤ schedule_limit = subst (λ (bs : List ℕ). length bs ≤ schedule_limit) (sym text)
    (order_short Q r.labels r.run ordered (from_all (λ u. u < count Q) r.run ordered.only) few names) in
    absurd (omega (arith, long.0, short))
runs_to_rest P Q same rules other apart names solution order r few from number has of_class o (inr is) =
    let counts : count P ≡ count Q = ap (λ (numbers : List ℕ). length numbers) same.numbers in
    let stable = same_stable P Q same r.labels r.stable in
    let ordered = order_too Q P (turned P Q same) other r.labels r.run r.is in
    let inside = from_all (λ u. u < length Q.names) r.run (subst (λ n. All (λ u. u < n) r.run) (sym other.tables.names) ordered.only) in
    let text : order ≡ name_lines Q r.run = r.text ∙ ap (λ (ns : List (List ℕ)). flat_map (λ u. slice_index_or ns u [] ++ codes "\n") r.run) same.names in
    let reads = ap (schedule_of_text Q.names) text ∙ names_are_read Q r.run apart names inside in
    let ran : IsRest Q (labels_after Q (no_labels Q) (run_of (count Q) (map One r.run))) o =
    subst (λ (x : Result (List Activation) ScheduleRefusal). IsOfActivations Q x o) reads is.1 in
    let ran_run : IsRest Q (labels_after Q (no_labels Q) r.run) o =
    subst (λ (xs : List ℕ). IsRest Q (labels_after Q (no_labels Q) xs) o) (run_is (count Q) r.run) ran in
    let like = order_reaches Q other r.labels stable r.run ordered in
    record {
      of_text = has;
      problem = Q;
      of_class = of_class;
      given = r.labels;
      read = (λ j. labels_of_text (sym same.protocol j) (sym same.names j) solution) ∙ r.read;
      reached = labels_after Q (no_labels Q) r.run;
      like = like;
      told = rests Q (labels_after Q (no_labels Q) r.run) o other like.stable ran_run;
    }

pub what_is_reached_rests : WhatIsReadIsWell → GivenIsWellFormed → WhatIsReachedRests
what_is_reached_rests well formed contents F S T text solution order N small holds told x kept ran y =
    let d = done_reading (reach F N S) contents (command.Reach N) refl (names_reach F S N small) text holds order x in
    let n = d.network in
    let read = well text n d.read in
    let r = some_class n N (IsReachOf n (Some solution)) order (class_at (classes_of n) N) refl
    (subst (λ (s : Option (List ℕ)). IsReachAnswer n N s (done order)) told d.over.answer) in
    let answer = answer_of (run F N T) contents (command.Run N) refl (names_run F T N small) text holds ran n d.read d.over.short y in
    let k : IsRunOf n (Some order) r.class ran = subst (λ (found : Option DestClass). IsOfClass found N (IsRunOf n (Some order)) ran) r.class_is
    (subst (λ (s : Option (List ℕ)). IsRunAnswer n N s ran) kept answer) in
    let has = has_class n N r.class r.class_is in
    let p = some_prefix n r.class has in
    let first = r.allowed.of_class p.0 p.1 in
    let second = k.of_class p.0 p.1 in
    let same = problems_alike n p.0 r.allowed.problem k.problem first second in
    let names = subst (AllByRecursion (λ (name : List ℕ). is_router_name name ≡ true)) (sym second.names)
    (router_names n.routers (formed n ∣ (text, read.given) ∣₁).routers) in
    let few : count k.problem ≤ 4096 = (let long = ap (λ (ns : List (List ℕ)). length ns) second.names
    ∙ length-map n.routers (λ (router : Router). router.name) in omega (arith, second.rules.tables.names, long, few_routers n read.faultless)) in
    runs_to_rest r.allowed.problem k.problem same first.rules second.rules (problem_apart n read.faultless r.class has k.problem k.of_class) names solution
    order
    (reached r.allowed.problem solution order r.allowed.solution) few text N
    (record { network = n; reads = d.read; class = r.class; class_is = r.class_is }) k.of_class ran k.ran
