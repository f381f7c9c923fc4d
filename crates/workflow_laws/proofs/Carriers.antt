-- If `fold` has an outcome for one solution, `fold` and `lift` have one for each solution.
use Rattle.std.proofs.Common.{ℕ, List, refl, sym, subst, Option}
use Rattle.std.specs.Prelude.{Contains, IsSome}
use Rattle.cfg_ast.specs.declared.classes.DestClass.{DestClass}
use Rattle.cfg_ast.specs.declared.network.Network.{Network}
use Rattle.cfg_ast.specs.meaning.Classes.{classes_of}
use Rattle.srp_core.specs.declared.route.Route.{Route}
use Rattle.srp_core.specs.Problem.{Problem, IsProblem}
use Rattle.srp_core.specs.Quotient.{IsQuotient}
use Rattle.srp_core.specs.Stability.{AreLabels}
use Rattle.srp_quotient.specs.Laws.{QuotientIsQuotient}
use Rattle.solution_check.specs.declared.judgement.Answer.{Answer}
use Rattle.solution_check.specs.declared.judgement.Answer.TheVariants.{Stable, Not}
use Rattle.solution_check.specs.Breaks.{Judges}
use Rattle.solution_text.specs.Printed.{labels_text}
use Rattle.answer_kit.specs.Outcome.{Outcome, done, not_stable}
use Rattle.answer_kit.proofs.OneClass.{some_prefix}
use Rattle.answer_solutions.specs.declared.sides.Sides.{Sides}
use Rattle.answer_solutions.specs.Carries.{AreSides, IsFolded, IsFoldOf, IsFoldOfLabels, IsLifted, IsLiftOf, IsLiftOfLabels, IsOfStable}
use Rattle.answer_solutions.specs.Checks.{break_reason}
use Rattle.workflow_laws.proofs.Carrying.{is_folded, is_lifted, HasCarrying, IsPair}
use Rattle.workflow_laws.proofs.Decided.{is_judged, IsComplete, IsSound}
use Rattle.workflow_laws.proofs.Labelled.{of_solution, SomeOf}

-- labels are judged, and work is done on stable ones
judged_work : IsSound → IsComplete → (P : Problem) (A : Outcome → Type 0) (labels : List (Option Route)) → AreLabels P labels
    → (Judges P labels Stable → SomeOf A) → SomeOf (IsOfStable P labels A)
judged_work sound complete P A labels fitting work = (let a = is_judged sound complete P labels fitting in by a.0 a.1)
  where
    by : (a : Answer) → Judges P labels a → SomeOf (IsOfStable P labels A)
    by Stable judged = (let o = work judged in (o.0, record { fitting = fitting; answer = Stable; judged = judged; told = o.1 }))
    by (Not router why) judged =
        (not_stable (break_reason P router why), record { fitting = fitting; answer = Not router why; judged = judged; told = refl })

module _ (sound : IsSound) (complete : IsComplete) (laws : HasCarrying) (is_quotient : QuotientIsQuotient) (n : Network) (class : DestClass)
    (has : Contains (classes_of n) class) (s : Sides) (are : AreSides n class s) where
  rules : IsProblem s.problem
  rules = (let p = some_prefix n class has in (are.built.of p.0 p.1).rules)

  pair : IsPair s.problem s.small s.groups
  pair = record {
    rules = rules;
    small_rules = are.small_rules;
    admissible = are.coarsest.admissible;
    quotient = subst (IsQuotient s.problem s.groups) (sym are.small_is)
        (is_quotient s.problem s.groups are.count rules are.coarsest.admissible are.numbered);
  }

  folded : (labels : List (Option Route)) → AreLabels s.problem labels → SomeOf (IsFoldOfLabels s labels)
  folded labels fitting = judged_work sound complete s.problem (IsFolded s labels) labels fitting (λ stable. (
      let f = is_folded laws s.problem s.small s.groups pair labels stable in
      (done (labels_text s.small.names f.0), record { lower = f.0; is = f.1; written = refl })))

  lifted : (lower : List (Option Route)) → AreLabels s.small lower → SomeOf (IsLiftOfLabels s lower)
  lifted lower fitting = judged_work sound complete s.small (IsLifted s lower) lower fitting (λ stable. (
      let l = is_lifted laws s.problem s.small s.groups pair lower stable in
      (done (labels_text s.problem.names l.0), record { labels = l.0; is = l.1; written = refl })))

  module _ (second : Option (List ℕ)) (told : IsSome second) where
    pub some_fold : SomeOf (IsFoldOf n second class)
    some_fold = (let o = of_solution s.problem rules (IsFoldOfLabels s) folded second told in (o.0, record { sides = s; are = are; solution = o.1 }))

    pub some_lift : SomeOf (IsLiftOf n second class)
    some_lift =
        let o = of_solution s.small are.small_rules (IsLiftOfLabels s) lifted second told in
        (o.0, record { sides = s; are = are; solution = o.1 })
