-- What is written of stable labels, and of an order, is short.
use Rattle.std.proofs.Common.{◌≡◌, ◌≤◌, ◌<◌, inl, inr, ℕ, true, List, ◌++◌, length, refl, sym, ap, ◌∙◌, subst, arith, Option, Some, Result, Ok, Err, codes}
use Rattle.std.specs.List.{AllByRecursion}
use Rattle.std.proofs.lemmas.List.{length-map}
use Rattle.base_kit.specs.Prefixes.{Prefix}
use Rattle.cfg_ast.specs.declared.network.Network.{Network}
use Rattle.cfg_ast.specs.declared.network.Router.{Router}
use Rattle.cfg_ast.specs.meaning.Classes.{classes_of}
use Rattle.cfg_ast.specs.text.Reading.{IsGiven}
use Rattle.cfg_ast.specs.text.Words.{is_router_name}
use Rattle.cfg_check.specs.Faultless.{IsFaultless}
use Rattle.cfg_check.proofs.Faultless.{few_routers}
use Rattle.given_laws.specs.Laws.{GivenIsWellFormed}
use Rattle.reading_laws.specs.WellRead.{WhatIsReadIsWell}
use Rattle.solution_check.specs.declared.judgement.Answer.{Answer}
use Rattle.solution_check.specs.declared.judgement.Answer.TheVariants.{Stable, Not}
use Rattle.solution_length.specs.Laws.{StableTextIsShort, TextOfGroupsIsShort}
use Rattle.solution_text.specs.declared.refusal.SolRefusal.{SolRefusal}
use Rattle.solution_text.specs.declared.refusal.SolRefusal.TheVariants as sol_refusal
use Rattle.solution_text.specs.Printed.{labels_text}
use Rattle.solution_text.specs.Solutions.{labels_of_text}
use Rattle.srp_core.specs.declared.route.Route.{Route}
use Rattle.srp_core.specs.Problem.{Problem, count}
use Rattle.srp_core.specs.ProblemOf.{IsProblemOf}
use Rattle.srp_quotient.specs.Laws.{QuotientIsQuotient}
use Rattle.answer_kit.specs.ClassNumbers.{class_at}
use Rattle.answer_kit.specs.Outcome.{Outcome, done}
use Rattle.answer_kit.specs.SecondFiles.{long_solution, solution_limit, solution_reason, IsOfLabels, IsOfSolution}
use Rattle.answer_kit.proofs.OneClass.{some_prefix}
use Rattle.answer_runs.specs.Reaches.{IsReachAnswer, IsReachOf}
use Rattle.answer_runs.specs.Schedules.{schedule_limit, IsRunAnswer, IsRunOf}
use Rattle.answer_solutions.specs.Carries.{IsFoldAnswer, IsFolded, IsFoldOf, IsFoldOfLabels, IsIfStable, IsLiftAnswer, IsLifted, IsLiftOf, IsLiftOfLabels}
use Rattle.answer_solutions.specs.Checks.{break_reason}
use Rattle.answer_solutions.proofs.GroupNames.{group_names, router_names}
use Rattle.answer_solutions.proofs.OneCarry.{quotient_of}
use Rattle.carried_laws.proofs.Carried.{not_refused}
use Rattle.workflow_laws.specs.Commands as command
use Rattle.workflow_laws.specs.PrintedShort.{PrintedIsShort}
use Rattle.workflow_laws.specs.Words.{fold, lift, reach, run}
use Rattle.workflow_laws.proofs.Answers.{done_reading}
use Rattle.workflow_laws.proofs.Named.{names_fold, names_lift, names_reach, names_run}
use Rattle.workflow_laws.proofs.Rested.{are_rested, fits_solution}
use Rattle.workflow_laws.proofs.Rests.{from_all, not_broken, reached}
use Rattle.workflow_laws.proofs.ShortOrders.{order_short}
use Rattle.workflow_laws.proofs.SomeClass.{has_class, some_class}

abbrev AreRouterNames : List (List ℕ) → Type 0
AreRouterNames names = AllByRecursion (λ (name : List ℕ). is_router_name name ≡ true) names

-- ---- the labels of which something was written

module _ (P : Problem) (text bytes : List ℕ) (A : List (Option Route) → Outcome → Type 0) where
  of_labels : (r : Result (List (Option Route)) SolRefusal) → IsOfLabels A r (done bytes) → (labels : List (Option Route)) × A labels (done bytes)
  of_labels (Ok labels) is = (labels, is)
  of_labels (Err (sol_refusal.At line kind)) is = absurd (not_refused bytes (solution_reason line kind) is)
  of_labels (Err sol_refusal.Memory) is = absurd is

  given_labels : IsOfSolution P (Some text) A (done bytes) → (labels : List (Option Route)) × A labels (done bytes)
  given_labels (inl long) = absurd (not_refused bytes long_solution long.1)
  given_labels (inr short) = of_labels (labels_of_text P.protocol P.names text) short.1

work_of : (P : Problem) (A : Outcome → Type 0) (bytes : List ℕ) (a : Answer) → IsIfStable P A a (done bytes) → A (done bytes)
work_of P A bytes Stable told = told
work_of P A bytes (Not router why) told = absurd (not_broken bytes (break_reason P router why) told)

module _ (n : Network) (given : ∥ IsGiven n ∥₁) (faultless : IsFaultless n) (formed : GivenIsWellFormed) where
  names_of : (p : Prefix) (P : Problem) → IsProblemOf n p P → AreRouterNames P.names
  names_of p P of = subst AreRouterNames (sym of.names) (router_names n.routers (formed n given).routers)

  few_of : (p : Prefix) (P : Problem) → IsProblemOf n p P → count P ≤ 4096
  few_of p P of =
      let long = ap (λ (ns : List (List ℕ)). length ns) of.names ∙ length-map n.routers (λ (router : Router). router.name) in
      omega (arith, of.rules.tables.names, long, few_routers n faultless)

  lifted_short : StableTextIsShort → (number : ℕ) (text bytes : List ℕ) → IsLiftAnswer n number (Some text) (done bytes) → length bytes ≤ solution_limit
  lifted_short short number text bytes answer =
      let r = some_class n number (IsLiftOf n (Some text)) bytes (class_at (classes_of n) number) refl answer in
      let has = has_class n number r.class r.class_is in
      let p = some_prefix n r.class has in
      let s = r.allowed.sides in
      let g = given_labels s.small text bytes (IsLiftOfLabels s) r.allowed.solution in
      let w = work_of s.small (IsLifted s g.0) bytes g.1.answer g.1.told in
      let same : bytes ≡ labels_text s.problem.names w.labels = ap (λ (o : Outcome). o.out) w.written in
      fits_solution bytes (labels_text s.problem.names w.labels) same
      (short n given faultless p.0 s.problem w.labels (r.allowed.are.built.of p.0 p.1) w.is.stable)

  folded_short : TextOfGroupsIsShort → QuotientIsQuotient → (number : ℕ) (text bytes : List ℕ) → IsFoldAnswer n number (Some text) (done bytes)
      → length bytes ≤ solution_limit
  folded_short short quotient number text bytes answer =
      let r = some_class n number (IsFoldOf n (Some text)) bytes (class_at (classes_of n) number) refl answer in
      let has = has_class n number r.class r.class_is in
      let p = some_prefix n r.class has in
      let s = r.allowed.sides in
      let are = r.allowed.are in
      let of = are.built.of p.0 p.1 in
      let g = given_labels s.problem text bytes (IsFoldOfLabels s) r.allowed.solution in
      let w = work_of s.problem (IsFolded s g.0) bytes g.1.answer g.1.told in
      let same : bytes ≡ labels_text s.small.names w.lower = ap (λ (o : Outcome). o.out) w.written in
      let names : AreRouterNames s.small.names =
      subst (λ (P : Problem). AreRouterNames P.names) (sym are.small_is)
      (group_names s.problem s.groups are.count are.numbered (of.rules.tables.names ∙ sym are.coarsest.admissible.total) (names_of p.0 s.problem of)) in
      let few = short n given faultless p.0 s.problem s.small s.groups w.lower of are.small_rules (quotient_of n r.class has quotient s are) names
      w.is.stable in
      fits_solution bytes (labels_text s.small.names w.lower) same few

  rested_short : StableTextIsShort → (number : ℕ) (text bytes : List ℕ) → IsRunAnswer n number (Some text) (done (codes "rest\n" ++ bytes))
      → length bytes ≤ solution_limit
  rested_short short number text bytes answer =
      let r = some_class n number (IsRunOf n (Some text)) (codes "rest\n" ++ bytes) (class_at (classes_of n) number) refl answer in
      let p = some_prefix n r.class (has_class n number r.class r.class_is) in
      let P = r.allowed.problem in
      let a = are_rested P bytes text r.allowed.ran in
      fits_solution bytes (labels_text P.names a.labels) a.is (short n given faultless p.0 P a.labels (r.allowed.of_class p.0 p.1) a.stable)

  reached_short : (number : ℕ) (text bytes : List ℕ) → IsReachAnswer n number (Some text) (done bytes) → length bytes ≤ schedule_limit
  reached_short number text bytes answer =
      let r = some_class n number (IsReachOf n (Some text)) bytes (class_at (classes_of n) number) refl answer in
      let p = some_prefix n r.class (has_class n number r.class r.class_is) in
      let P = r.allowed.problem in
      let of = r.allowed.of_class p.0 p.1 in
      let x = reached P text bytes r.allowed.solution in
      subst (λ (bs : List ℕ). length bs ≤ schedule_limit) (sym x.text)
      (order_short P x.labels x.run x.is (from_all (λ u. u < count P) x.run x.is.only) (few_of p.0 P of) (names_of p.0 P of))

pub printed_is_short : WhatIsReadIsWell → GivenIsWellFormed → QuotientIsQuotient → StableTextIsShort → TextOfGroupsIsShort → PrintedIsShort
printed_is_short well formed quotient stable groups contents F S text second N small holds told = record {
  folded = λ written x. (
      let d = done_reading (fold F N S) contents (command.Fold N) refl (names_fold F S N small) text holds written x in
      let read = well text d.network d.read in
      folded_short d.network ∣ (text, read.given) ∣₁ read.faultless formed groups quotient N second written
      (subst (λ (s : Option (List ℕ)). IsFoldAnswer d.network N s (done written)) told d.over.answer));
  lifted = λ written x. (
      let d = done_reading (lift F N S) contents (command.Lift N) refl (names_lift F S N small) text holds written x in
      let read = well text d.network d.read in
      lifted_short d.network ∣ (text, read.given) ∣₁ read.faultless formed stable N second written
      (subst (λ (s : Option (List ℕ)). IsLiftAnswer d.network N s (done written)) told d.over.answer));
  rested = λ written x. (
      let d = done_reading (run F N S) contents (command.Run N) refl (names_run F S N small) text holds (codes "rest\n" ++ written) x in
      let read = well text d.network d.read in
      rested_short d.network ∣ (text, read.given) ∣₁ read.faultless formed stable N second written
      (subst (λ (s : Option (List ℕ)). IsRunAnswer d.network N s (done (codes "rest\n" ++ written))) told d.over.answer));
  reached = λ written x. (
      let d = done_reading (reach F N S) contents (command.Reach N) refl (names_reach F S N small) text holds written x in
      let read = well text d.network d.read in
      reached_short d.network ∣ (text, read.given) ∣₁ read.faultless formed N second written
      (subst (λ (s : Option (List ℕ)). IsReachAnswer d.network N s (done written)) told d.over.answer));
}
