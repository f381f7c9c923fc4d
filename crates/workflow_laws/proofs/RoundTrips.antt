-- What one command writes is taken by another one.
use Rattle.std.proofs.Common.{◌≡◌, ◌≤◌, ℕ, List, length, refl, sym, ap, ◌∙◌, subst, Option, Some, Ok}
use Rattle.cfg_ast.specs.declared.classes.DestClass.{DestClass}
use Rattle.class_laws.specs.Laws.{BuiltProblemIsOne}
use Rattle.reading_laws.specs.WellRead.{WhatIsReadIsWell}
use Rattle.srp_core.proofs.AlikeOf.{one_problem as problems_alike}
use Rattle.srp_core.specs.declared.route.Route.{Route}
use Rattle.srp_core.specs.Problem.{IsProblem}
use Rattle.srp_core.specs.Stability.{IsStable}
use Rattle.solution_text.specs.Solutions.{labels_of_text}
use Rattle.answer_kit.specs.declared.status.Status.TheVariants.{Done}
use Rattle.answer_kit.specs.Outcome.{Outcome, done}
use Rattle.answer_kit.specs.SecondFiles.{solution_limit, IsOfSolution}
use Rattle.answer_kit.proofs.OneClass.{some_prefix}
use Rattle.answer_solutions.specs.declared.sides.Sides.{Sides}
use Rattle.answer_solutions.specs.Carries.{AreSides, IsLifted, IsLiftOfLabels, IsFoldAnswer, IsLiftAnswer}
use Rattle.answer_solutions.specs.Checks.{IsCheckAnswer}
use Rattle.answer_solutions.specs.ReadBack.{FoldIsReadBack, LiftIsReadBack}
use Rattle.answer_solutions.proofs.OneCarry.{one_sides, problem_self}
use Rattle.workflow_laws.specs.Commands as command
use Rattle.workflow_laws.specs.CarriedUp.{WhatIsLiftedIsStable}
use Rattle.workflow_laws.specs.CarriedDown.{WhatIsFoldedIsStableBelow, WhatIsFoldedIsLifted}
use Rattle.workflow_laws.specs.PrintedShort.{PrintedIsShort}
use Rattle.workflow_laws.specs.Words.{check, fold, lift}
use Rattle.workflow_laws.proofs.Answers.{answer_of, done_over, done_reading}
use Rattle.workflow_laws.proofs.Kept.{short_large, short_small, SmallLaws, small_network}
use Rattle.workflow_laws.proofs.Named.{names_check, names_fold, names_lift}
use Rattle.workflow_laws.proofs.SomeClass.{has_class}
use Rattle.workflow_laws.proofs.Told.{of_read, text_told_stable, work_is_done}
use Rattle.workflow_laws.proofs.Up.{check_of, lift_of}

one_found : (class other : DestClass) → Some class ≡ Some other → class ≡ other
one_found class other e = cc

-- ---- what `lift` writes is stable

pub what_is_lifted_is_stable : WhatIsReadIsWell → LiftIsReadBack → PrintedIsShort → WhatIsLiftedIsStable
what_is_lifted_is_stable well back few contents F S T text solution written N small holds told x kept checked y =
    let d = done_reading (lift F N S) contents (command.Lift N) refl (names_lift F S N small) text holds written x in
    let n = d.network in
    let read = well text n d.read in
    let lifted = subst (λ (c : Option (List ℕ)). IsLiftAnswer n N c (done written)) told d.over.answer in
    let l = back n ∣ (text, read.given) ∣₁ read.faultless N solution written lifted in
    let c = answer_of (check F N T) contents (command.Check N) refl (names_check F T N small) text holds checked n d.read d.over.short y in
    let k = check_of n N l.class (Some written) checked l.class_is (subst (λ (s : Option (List ℕ)). IsCheckAnswer n N s checked) kept c) in
    let p = some_prefix n l.class (has_class n N l.class l.class_is) in
    let own = l.are.built.of p.0 p.1 in
    let alike = problems_alike n p.0 l.sides.problem k.problem own (k.of_class p.0 p.1) in
    text_told_stable l.sides.problem k.problem alike own.rules l.labels l.stable_above written checked
    ((few contents F S text solution N small holds told).lifted written x) l.reads k.solution

-- ---- what `fold` writes is stable below

pub what_is_folded_is_stable_below : SmallLaws → FoldIsReadBack → PrintedIsShort → WhatIsFoldedIsStableBelow
what_is_folded_is_stable_below laws back few contents F G S T solution written N K c told x kept checked y =
    let well = laws.well in
    let n = c.of_large.network in
    let m = c.of_small.network in
    let read = well c.large n c.of_large.reads in
    let low = small_network laws contents F G N K c in
    let d = done_over (fold F N S) contents (command.Fold N) refl (names_fold F S N (short_large well contents F G N K c)) c.large c.holds written n
    c.of_large.reads x in
    let f = back n ∣ (c.large, read.given) ∣₁ read.faultless N solution written
    (subst (λ (s : Option (List ℕ)). IsFoldAnswer n N s (done written)) told d.answer) in
    let same : f.class ≡ c.of_large.class = one_found f.class c.of_large.class (sym f.class_is ∙ c.of_large.class_is) in
    let answer = answer_of (check G K T) contents (command.Check K) refl (names_check G T K (short_small well contents F G N K c)) c.small c.kept checked m
    c.of_small.reads low.short y in
    let k = check_of m K c.of_small.class (Some written) checked c.of_small.class_is (subst (λ (s : Option (List ℕ)). IsCheckAnswer m K s checked) kept answer)
    in
    let p = some_prefix n c.of_large.class (has_class n N c.of_large.class c.of_large.class_is) in
    let own = low.of_groups f.sides (subst (λ (class : DestClass). AreSides n class f.sides) same f.are) p.0 p.1 in
    let alike = problems_alike m p.0 f.sides.small k.problem own (k.of_class p.0 (c.prefixes p.0 p.1)) in
    text_told_stable f.sides.small k.problem alike own.rules f.lower f.stable_below written checked
    ((few contents F S c.large solution N (short_large well contents F G N K c) c.holds told).folded written x) f.reads k.solution

-- ---- `lift` takes what `fold` writes

pub what_is_folded_is_lifted : WhatIsReadIsWell → BuiltProblemIsOne → FoldIsReadBack → PrintedIsShort → WhatIsFoldedIsLifted
what_is_folded_is_lifted well built back few contents F S T text solution written N small holds told x kept lifted y =
    let d = done_reading (fold F N S) contents (command.Fold N) refl (names_fold F S N small) text holds written x in
    let n = d.network in
    let read = well text n d.read in
    let f = back n ∣ (text, read.given) ∣₁ read.faultless N solution written
    (subst (λ (s : Option (List ℕ)). IsFoldAnswer n N s (done written)) told d.over.answer) in
    let answer = answer_of (lift F N T) contents (command.Lift N) refl (names_lift F T N small) text holds lifted n d.read d.over.short y in
    let l = lift_of n N f.class (Some written) lifted f.class_is (subst (λ (s : Option (List ℕ)). IsLiftAnswer n N s lifted) kept answer) in
    let same : l.sides ≡ f.sides = one_sides n f.class (has_class n N f.class f.class_is) built l.sides f.sides l.are f.are in
    taken f.sides f.lower f.stable_below written lifted ((few contents F S text solution N small holds told).folded written x) f.reads f.are.small_rules
    (subst (λ (s : Sides). IsOfSolution s.small (Some written) (IsLiftOfLabels s) lifted) same l.solution)
  where
    taken : (s : Sides) (lower : List (Option Route)) → IsStable s.small lower → (written : List ℕ) (o : Outcome) → length written ≤ solution_limit
        → labels_of_text s.small.protocol s.small.names written ≡ Ok lower
        → IsProblem s.small → IsOfSolution s.small (Some written) (IsLiftOfLabels s) o → o.status ≡ Done
    taken s lower stable written o short reads rules is =
        let work = of_read s.small (IsLiftOfLabels s) written lower o short reads is in
        ap (λ (q : Outcome). q.status) (work_is_done s.small s.small (problem_self s.small) rules lower stable (IsLifted s lower) o work).written
