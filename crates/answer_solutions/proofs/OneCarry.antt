-- Public: what `fold` and `lift` tell of a class is determined.
use Rattle.std.proofs.Common.{◌≡◌, ℕ, List, [], ◌∷◌, refl, sym, ap, ◌∙◌, subst, Option}
use Rattle.std.specs.Prelude.{Contains, IsSome}
use Rattle.base_kit.specs.declared.act_graph.Edge.{Edge}
use Rattle.base_kit.specs.Partition.{IsNumbered}
use Rattle.cfg_ast.specs.declared.network.Network.{Network}
use Rattle.cfg_ast.specs.declared.classes.DestClass.{DestClass}
use Rattle.cfg_ast.specs.meaning.Classes.{classes_of}
use Rattle.srp_core.specs.declared.route.Route.{Route}
use Rattle.srp_core.specs.Alike.{AllEdgesAlike, ProblemsAlike}
use Rattle.srp_core.specs.Problem.{Problem, IsProblem, act_of}
use Rattle.srp_core.specs.Quotient.{IsQuotient}
use Rattle.srp_core.specs.Stability.{IsStable}
use Rattle.srp_core.proofs.AlikeOf.{one_problem as problems_alike}
use Rattle.srp_core.proofs.Steps.{alike_self}
use Rattle.srp_quotient.specs.Groups.{small_of}
use Rattle.srp_quotient.specs.Laws.{QuotientIsQuotient}
use Rattle.solution_check.specs.declared.judgement.Answer.{Answer}
use Rattle.solution_check.specs.declared.judgement.Answer.TheVariants.{Stable, Not}
use Rattle.solution_check.specs.Breaks.{Judges}
use Rattle.solution_check.proofs.OneAnswer.{one_answer}
use Rattle.solution_lift.specs.Laws.{FoldingIsOne, LiftingIsOne}
use Rattle.solution_text.specs.Printed.{labels_text}
use Rattle.answer_kit.specs.Outcome.{Outcome, done}
use Rattle.answer_kit.specs.SecondFiles.{IsOfSolution}
use Rattle.answer_kit.proofs.NumberedOnce.{one_count_of_groups}
use Rattle.answer_kit.proofs.OneClass.{some_prefix, one_list_of_groups}
use Rattle.answer_kit.proofs.OneText.{one_of_solution}
use Rattle.class_laws.specs.Laws.{BuiltProblemIsOne}
use Rattle.answer_solutions.specs.declared.carry.Way.{Way}
use Rattle.answer_solutions.specs.declared.carry.Way.TheVariants.{Fold, Lift}
use Rattle.answer_solutions.specs.declared.sides.Sides.{Sides}
use Rattle.answer_solutions.specs.Carries.{AreSides, IsIfStable, IsOfStable, IsFolded, IsLifted, carried_from, IsCarriedBy, IsCarryOfLabels, IsCarryOf, IsFoldOf, IsLiftOf}

-- ---- a class has one problem, one list of groups and one problem of the groups

abbrev sides_with : Problem → List ℕ → Problem → Sides
sides_with problem groups small = record { problem = problem; groups = groups; small = small }

pub one_sides : (n : Network) (class : DestClass) → Contains (classes_of n) class → BuiltProblemIsOne → (s t : Sides) → AreSides n class s → AreSides n class t
    → s ≡ t
one_sides n class has built s t x y =
    let p = some_prefix n class has in
    let problems = built n class has s.problem t.problem x.built y.built in
    let groups = one_list_of_groups s.problem t.problem (problems_alike n p.0 s.problem t.problem (x.built.of p.0 p.1) (y.built.of p.0 p.1)) s.groups t.groups
    x.count y.count x.coarsest y.coarsest x.numbered y.numbered in
    let counts = one_count_of_groups t.groups x.count y.count (subst (λ (g : List ℕ). IsNumbered g x.count) groups x.numbered) y.numbered in
    let smalls = x.small_is ∙ (λ j. small_of (problems j) (groups j) (counts j)) ∙ sym y.small_is in
    λ j. sides_with (problems j) (groups j) (smalls j)

-- ---- labels have one judgement

edges_self : (P : Problem) (es : List Edge) → AllEdgesAlike P P es es
edges_self P [] = tt
edges_self P (e ∷ es) = (record { importer = refl; exporter = refl; link = refl; acts = alike_self (act_of P e) }, edges_self P es)

pub problem_self : (P : Problem) → ProblemsAlike P P
problem_self P = record { protocol = refl; names = refl; numbers = refl; init = refl; lone = refl; edges = edges_self P P.edges }

module _ (P : Problem) (labels : List (Option Route)) (A : Outcome → Type 0) (one : IsStable P labels → (o p : Outcome) → A o → A p → o ≡ p) where
  by_answer : (a b : Answer) → a ≡ b → Judges P labels a → (o p : Outcome) → IsIfStable P A a o → IsIfStable P A b p → o ≡ p
  by_answer Stable b same judged o p x y = one judged o p x (subst (λ (c : Answer). IsIfStable P A c p) (sym same) y)
  by_answer (Not router why) b same judged o p x y = x ∙ sym (subst (λ (c : Answer). IsIfStable P A c p) (sym same) y)

  one_of_stable : IsProblem P → (o p : Outcome) → IsOfStable P labels A o → IsOfStable P labels A p → o ≡ p
  one_of_stable rules o p x y = by_answer x.answer y.answer (one_answer P P labels rules (problem_self P) x.fitting x.answer y.answer x.judged y.judged)
      x.judged o p x.told y.told

-- ---- one outcome

module _ (n : Network) (class : DestClass) (has : Contains (classes_of n) class) (quotient : QuotientIsQuotient) where
  rules_of : (s : Sides) → AreSides n class s → IsProblem s.problem
  rules_of s are = (let p = some_prefix n class has in (are.built.of p.0 p.1).rules)

  pub quotient_of : (s : Sides) → AreSides n class s → IsQuotient s.problem s.groups s.small
  quotient_of s are = subst (IsQuotient s.problem s.groups) (sym are.small_is)
      (quotient s.problem s.groups are.count (rules_of s are) are.coarsest.admissible are.numbered)

  -- the problem from which labels are carried keeps its rules
  carried_rules : (way : Way) (s : Sides) → AreSides n class s → IsProblem (carried_from way s)
  carried_rules Fold s are = rules_of s are
  carried_rules Lift s are = are.small_rules

  -- one way of stable labels gives one outcome
  module _ (built : BuiltProblemIsOne) (way : Way) (one : (s : Sides) → AreSides n class s → (labels : List (Option Route))
      → IsStable (carried_from way s) labels → (o p : Outcome) → IsCarriedBy way s labels o → IsCarriedBy way s labels p → o ≡ p) where
    one_carry : (second : Option (List ℕ)) → IsSome second → (o p : Outcome) → IsCarryOf way n second class o → IsCarryOf way n second class p → o ≡ p
    one_carry second told o p x y =
        let s = x.sides in
        let P = carried_from way s in
        let same = one_sides n class has built x.sides y.sides x.are y.are in
        let other = subst (λ (t : Sides). IsOfSolution (carried_from way t) second (IsCarryOfLabels way t (carried_from way t)) p) (sym same) y.solution in
        one_of_solution P P refl refl (IsCarryOfLabels way s P) (IsCarryOfLabels way s P)
        (λ labels. one_of_stable P labels (IsCarriedBy way s labels) (one s x.are labels) (carried_rules way s x.are)) second told o p x.solution other

  one_folded : FoldingIsOne → (s : Sides) → AreSides n class s → (labels : List (Option Route)) → IsStable s.problem labels → (o p : Outcome)
      → IsFolded s labels o → IsFolded s labels p → o ≡ p
  one_folded one s are labels stable o p x y =
      x.written ∙ ap (λ (ls : List (Option Route)). done (labels_text s.small.names ls))
      (one s.problem s.small s.groups labels (rules_of s are) are.small_rules are.coarsest.admissible (quotient_of s are) stable x.lower y.lower x.is y.is)
      ∙ sym y.written

  one_lifted : LiftingIsOne → (s : Sides) → AreSides n class s → (lower : List (Option Route)) → IsStable s.small lower → (o p : Outcome) → IsLifted s lower o
      → IsLifted s lower p → o ≡ p
  one_lifted one s are lower stable o p x y =
      x.written ∙ ap (λ (ls : List (Option Route)). done (labels_text s.problem.names ls))
      (one s.problem s.small s.groups lower (rules_of s are) are.small_rules are.coarsest.admissible (quotient_of s are) stable x.labels y.labels x.is y.is)
      ∙ sym y.written

  pub one_fold : BuiltProblemIsOne → FoldingIsOne → (second : Option (List ℕ)) → IsSome second → (o p : Outcome) → IsFoldOf n second class o
      → IsFoldOf n second class p → o ≡ p
  one_fold built one = one_carry built Fold (one_folded one)

  pub one_lift : BuiltProblemIsOne → LiftingIsOne → (second : Option (List ℕ)) → IsSome second → (o p : Outcome) → IsLiftOf n second class o
      → IsLiftOf n second class p → o ≡ p
  one_lift built one = one_carry built Lift (one_lifted one)
