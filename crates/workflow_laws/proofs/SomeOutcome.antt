-- There is an outcome.
use Rattle.std.proofs.Common.{◌≡◌, inl, inr, ℕ, Bool, true, false, List, [], ◌∷◌, length, refl, arith, Option, Some, None, Result, Ok, Err}
use Rattle.std.specs.Prelude.{Contains, IsSome}
use Rattle.std.proofs.lemmas.Bool.{cases_lt}
use Rattle.base_kit.proofs.Elements.{In, contains_in}
use Rattle.abstract_net.specs.Links.{quotient_links}
use Rattle.cfg_ast.specs.declared.classes.DestClass.{DestClass}
use Rattle.cfg_ast.specs.declared.network.Network.{Network}
use Rattle.cfg_ast.specs.declared.refusal.ReadRefusal.{ReadRefusal}
use Rattle.cfg_ast.specs.declared.refusal.ReadRefusal.TheVariants as read_refusal
use Rattle.cfg_ast.specs.meaning.Classes.{classes_of}
use Rattle.cfg_ast.specs.text.Reading.{reading_of}
use Rattle.compress_laws.specs.Built.{IsPlanOf}
use Rattle.compress_laws.specs.Laws.{BuiltFits}
use Rattle.config_emit.specs.Plan.{Plan}
use Rattle.canon_policy.specs.Exists.{EachHasCanonical}
use Rattle.existence_laws.specs.Laws.{EachClassHasProblem, EachGraphHasCertificate, EachProblemHasGraph}
use Rattle.srp_build.specs.Exists.{HasProblem}
use Rattle.fat_gen.specs.FatTrees.{fat_tree_text, is_size}
use Rattle.given_laws.specs.Laws.{GivenIsWellFormed}
use Rattle.group_report.specs.JsonText.{json_text}
use Rattle.group_report.specs.Reports.{Report, report_text}
use Rattle.net_topology.specs.Laws.{FewLinks}
use Rattle.quotient_laws.specs.Links.{QuotientHasNoMoreLinks}
use Rattle.quotient_laws.specs.Numbered.{EachHasGroups, HasGroups}
use Rattle.reading_laws.specs.WellRead.{IsRead, WhatIsReadIsWell}
use Rattle.srp_core.specs.Problem.{Problem, IsProblem}
use Rattle.srp_quotient.specs.Groups.{small_of}
use Rattle.srp_quotient.specs.Laws.{QuotientIsProblem, QuotientIsQuotient}
use Rattle.answer_groups.specs.ClassLines.{classes_text}
use Rattle.answer_kit.specs.ClassNumbers.{class_at, no_class, IsOfClass}
use Rattle.answer_kit.specs.Kinds.{line_reason}
use Rattle.answer_kit.specs.Networks.{long_text, IsOfNetworkIn, IsOfReading}
use Rattle.answer_kit.specs.Outcome.{Outcome, done, refused, usage}
use Rattle.answer_kit.proofs.OneClass.{some_prefix}
use Rattle.answer_reports.specs.ReportAnswers.{report_of, IsReported}
use Rattle.answer_reports.specs.Summaries.{summary_lines, ArePlansOf, IsSummaryAnswer}
use Rattle.answer_reports.specs.Trials.{bad_size, IsTrialBy}
use Rattle.answer_solutions.specs.declared.sides.Sides.{Sides}
use Rattle.answer_solutions.specs.Carries.{AreSides}
use Rattle.bonsai_top.specs.declared.command.NetworkCommand.{NetworkCommand}
use Rattle.bonsai_top.specs.declared.command.NetworkCommand.TheVariants as on_network
use Rattle.bonsai_top.specs.declared.command.ClassCommand.{ClassCommand}
use Rattle.bonsai_top.specs.declared.command.ClassCommand.TheVariants as on_class
use Rattle.bonsai_top.specs.declared.command.SecondCommand.{SecondCommand}
use Rattle.bonsai_top.specs.declared.command.SecondCommand.TheVariants as on_second
use Rattle.bonsai_top.specs.declared.command.Command.{Command}
use Rattle.bonsai_top.specs.declared.command.Command.TheVariants as command
use Rattle.bonsai_top.specs.Commands.{command_of, is_read, reads_first, reads_second}
use Rattle.bonsai_top.specs.Outcomes.{text_limit, IsAnswerTo, IsOnClass, IsOnNetwork, IsOnSecond, IsOutcome, IsOutcomeAt, IsOutcomeOf, IsOutcomeOfFiles}
use Rattle.bonsai_top.specs.Words.{file_of, second_of}
use Rattle.workflow_laws.specs.Existence.{EachTextIsJudged, ThereIsAnOutcome}
use Rattle.workflow_laws.proofs.Carriers.{some_fold, some_lift}
use Rattle.workflow_laws.proofs.Carrying.{HasCarrying}
use Rattle.workflow_laws.proofs.Decided.{IsComplete, IsSound}
use Rattle.workflow_laws.proofs.Existence.{check_of_plan, compress_of_plan, groups_of_plan, reach_of_plan, run_of_plan, HasOrder}
use Rattle.workflow_laws.proofs.Labelled.{RestIsStable, SomeOf}
use Rattle.workflow_laws.proofs.SomeCanon.{some_canon}
use Rattle.workflow_laws.proofs.SomeCertificate.{some_certify, some_verify}
use Rattle.workflow_laws.proofs.SomeClass.{has_class}

-- the laws on which existence depends
pub record HasLaws : Type 0 where
  pub well : WhatIsReadIsWell
  pub judged : EachTextIsJudged
  pub formed : GivenIsWellFormed
  pub problems : EachClassHasProblem
  pub graphs : EachProblemHasGraph
  pub certificates : EachGraphHasCertificate
  pub canon : EachHasCanonical
  pub fits : BuiltFits
  pub groups : EachHasGroups
  pub few_links : FewLinks
  pub no_more_links : QuotientHasNoMoreLinks
  pub is_problem : QuotientIsProblem
  pub is_quotient : QuotientIsQuotient
  pub sound : IsSound
  pub complete : IsComplete
  pub carrying : HasCarrying
  pub order : HasOrder
  pub rest : RestIsStable

module _ (laws : HasLaws) (text : List ℕ) (n : Network) (reads : reading_of text ≡ Ok n) where
  abbrev well : IsRead text n
  well = laws.well text n reads

  module _ (class : DestClass) (has : Contains (classes_of n) class) where
    abbrev found : HasProblem n class
    found = laws.problems n ∣ (text, well.given) ∣₁ well.faultless class has

    abbrev problem : Problem
    problem = found.problem

    rules : IsProblem problem
    rules = (let p = some_prefix n class has in (found.built.of p.0 p.1).rules)

    groups : HasGroups problem
    groups = laws.groups problem rules

    abbrev plan : Plan
    plan = record {
      network = n;
      class = class;
      problem = problem;
      groups = groups.groups;
      count = groups.count;
      links = quotient_links problem.edges groups.groups groups.count;
    }

    is_plan : IsPlanOf n class plan
    is_plan = record {
      network_is = refl;
      class_is = refl;
      built = found.built;
      coarsest = groups.coarsest;
      numbered = groups.numbered;
      links = refl;
    }

    some_report : (write : Report → List ℕ) (number : ℕ) → SomeOf (IsReported write n number class)
    some_report write number = (done (write (report_of n number plan)), record { plan = plan; is = is_plan; written = refl })

    abbrev sides : Sides
    sides = record { problem = problem; groups = groups.groups; small = small_of problem groups.groups groups.count }

    are_sides : AreSides n class sides
    are_sides =
        let read = well in
        let p = some_prefix n class has in
        let built = found.built in
        let fewer = laws.no_more_links n p.0 problem groups.groups groups.count (built.of p.0 p.1) in
        let few = laws.few_links n (laws.formed n ∣ (text, read.given) ∣₁) read.faultless in
        record {
          built = built;
          coarsest = groups.coarsest;
          count = groups.count;
          numbered = groups.numbered;
          small_is = refl;
          small_rules = laws.is_problem problem groups.groups groups.count rules groups.coarsest.admissible groups.numbered (omega (arith, fewer, few));
        }

  -- ---- the class of a number

  of_class : (A : DestClass → Outcome → Type 0) (number : ℕ) → ((class : DestClass) → Contains (classes_of n) class → SomeOf (A class))
      → SomeOf (IsOfClass (class_at (classes_of n) number) number A)
  of_class A number each = by (class_at (classes_of n) number) refl
    where
      by : (found : Option DestClass) → class_at (classes_of n) number ≡ found → SomeOf (IsOfClass found number A)
      by None at = (refused (no_class number), refl)
      by (Some class) at = each class (has_class n number class at)

  -- ---- all classes

  plans_of : (classes : List DestClass) → ((class : DestClass) → In classes class → Contains (classes_of n) class)
      → (plans : List Plan) × ArePlansOf n classes plans
  plans_of [] inside = ([], tt)
  plans_of (class ∷ classes) inside =
      let has = inside class (inl refl) in
      let more = plans_of classes (λ c at. inside c (inr at)) in
      (plan class has ∷ more.0, (is_plan class has, more.1))

  pub some_summary : SomeOf (IsSummaryAnswer n)
  some_summary =
      let p = plans_of (classes_of n) (λ class at. contains_in (classes_of n) class at) in
      let bytes = summary_lines n 1 p.0 in
      (done bytes, record { bytes = bytes; lines = record { plans = p.0; are = p.1; lines = refl }; written = refl })

  -- ---- each command

  some_on_network : (of : NetworkCommand) → SomeOf (IsOnNetwork of n)
  some_on_network on_network.Classes = (done (classes_text n), refl)
  some_on_network on_network.Summary = some_summary

  module _ (number : ℕ) (class : DestClass) (has : Contains (classes_of n) class) where
    abbrev reported : SomeOf (IsReported report_text n number class)
    reported = some_report class has report_text number

    some_on_class : (of : ClassCommand) → SomeOf (IsOnClass of n number class)
    some_on_class on_class.Groups = groups_of_plan n number class reported.0 reported.1
    some_on_class on_class.Compress = compress_of_plan n number class reported.0 reported.1
    some_on_class on_class.Report = reported
    some_on_class on_class.Json = some_report class has json_text number
    some_on_class on_class.Canon =
        some_canon laws.canon laws.groups n (laws.formed n ∣ (text, well.given) ∣₁) class (problem class has) (found class has).built (rules class has)
        (laws.fits n class (problem class has) ∣ (text, well.given) ∣₁ well.faultless has (found class has).built)
    some_on_class on_class.Certify = some_certify laws.graphs laws.certificates n class (problem class has) (found class has).built (rules class has)

    some_on_second : (of : SecondCommand) → (second : Option (List ℕ)) → IsSome second
        → SomeOf (IsOnSecond of n second class)
    some_on_second on_second.Check second told = check_of_plan n number class reported.0 reported.1 has laws.sound laws.complete second told
    some_on_second on_second.Fold second told =
        some_fold laws.sound laws.complete laws.carrying laws.is_quotient n class has (sides class has) (are_sides class has) second told
    some_on_second on_second.Lift second told =
        some_lift laws.sound laws.complete laws.carrying laws.is_quotient n class has (sides class has) (are_sides class has) second told
    some_on_second on_second.Run second told = run_of_plan n number class reported.0 reported.1 has laws.rest second told
    some_on_second on_second.Reach second told = reach_of_plan n number class reported.0 reported.1 has laws.sound laws.complete second told laws.order
    some_on_second on_second.Verify second told =
        some_verify laws.graphs laws.certificates n class (problem class has) (found class has).built (rules class has) second told

  some_answer : (c : Command) (second : Option (List ℕ)) → reads_first c ≡ true → (is_read reads_second (Some c) ≡ true → IsSome second)
      → SomeOf (IsAnswerTo c n second)
  some_answer (command.OnNetwork of) second reads_file told = some_on_network of
  some_answer (command.OnClass of number) second reads_file told =
      of_class (IsOnClass of n number) number (λ class has. some_on_class number class has of)
  some_answer (command.OnSecond of number) second reads_file told =
      of_class (IsOnSecond of n second) number (λ class has. some_on_second number class has of second (told refl))
  some_answer (command.Trial size) second reads_file told = absurd cc

-- ---- a text

module _ (judged : EachTextIsJudged) (A : Network → Outcome → Type 0) (text : List ℕ) (some : (n : Network) → reading_of text ≡ Ok n → SomeOf (A n)) where
  of_reading : (r : Result Network ReadRefusal) → reading_of text ≡ r → SomeOf (IsOfReading A r)
  of_reading (Ok n) reads = some n reads
  of_reading (Err (read_refusal.At line kind)) reads = (refused (line_reason line kind), refl)
  of_reading (Err read_refusal.Memory) reads = absurd (judged text reads)

  of_text : SomeOf (IsOfNetworkIn A text)
  of_text = elim (cases_lt text_limit (length text)) [
    | inl long ↦ (refused long_text, inl (long, refl))
    | inr short ↦ (let o = of_reading (reading_of text) refl in (o.0, inr (short, o.1)))
  ]

module _ (laws : HasLaws) where
  some_trial : (size : ℕ) (b : Bool) → SomeOf (IsTrialBy b size)
  some_trial size true = of_text laws.judged IsSummaryAnswer (fat_tree_text size) (some_summary laws (fat_tree_text size))
  some_trial size false = (refused (bad_size size), refl)

  -- any outcome is allowed over a file that is not known
  of_files : (c : Command) (first second : Option (List ℕ)) → reads_first c ≡ true → (is_read reads_second (Some c) ≡ true → IsSome second)
      → SomeOf (IsOutcomeOfFiles c first second)
  of_files c None second reads told = (usage, tt)
  of_files c (Some text) second reads told =
      of_text laws.judged (λ n o. IsAnswerTo c n second o) text (λ n is. some_answer laws text n is c second reads told)

  some_outcome : (c : Command) (first second : Option (List ℕ)) → (is_read reads_second (Some c) ≡ true → IsSome second) → SomeOf (IsOutcomeOf c first second)
  some_outcome (command.OnNetwork of) first second told = of_files (command.OnNetwork of) first second refl told
  some_outcome (command.OnClass of number) first second told = of_files (command.OnClass of number) first second refl told
  some_outcome (command.OnSecond of number) first second told = of_files (command.OnSecond of number) first second refl told
  some_outcome (command.Trial size) first second told = some_trial size (is_size size)

  some_at : (c : Option Command) (first second : Option (List ℕ)) → (is_read reads_second c ≡ true → IsSome second) → SomeOf (IsOutcomeAt c first second)
  some_at None first second told = (usage, refl)
  some_at (Some c) first second told = some_outcome c first second told

pub there_is_an_outcome : HasLaws → ThereIsAnOutcome
unfolding IsOutcome
there_is_an_outcome laws words contents told =
    let o = some_at laws (command_of words) (contents (file_of words)) (contents (second_of words)) told.second in
    record { outcome = o.0; allowed = o.1 }
