-- What `fold` and `lift` write is read back.
use Rattle.std.proofs.Common.{◌≡◌, ◌-◌, ℕ, true, List, refl, sym, ap, ◌∙◌, subst, inl, inr, Option, Some, None, Result, Ok, Err}
use Rattle.std.specs.Prelude.{Contains, nat_eq}
use Rattle.std.specs.List.{AllByRecursion}
use Rattle.base_kit.specs.Prefixes.{Prefix}
use Rattle.cfg_ast.specs.declared.network.Network.{Network}
use Rattle.cfg_ast.specs.declared.classes.DestClass.{DestClass}
use Rattle.cfg_ast.specs.meaning.Classes.{classes_of}
use Rattle.cfg_ast.specs.text.Reading.{IsGiven}
use Rattle.cfg_ast.specs.text.Words.{is_router_name}
use Rattle.given_laws.specs.Laws.{GivenIsWellFormed}
use Rattle.cfg_check.specs.Faultless.{IsFaultless}
use Rattle.srp_core.specs.declared.route.Route.{Route}
use Rattle.srp_core.specs.Problem.{Problem, IsProblem}
use Rattle.srp_core.specs.ProblemOf.{IsProblemOf}
use Rattle.srp_core.specs.Quotient.{IsQuotient}
use Rattle.srp_core.specs.Stability.{IsStable}
use Rattle.srp_quotient.specs.Laws.{QuotientIsQuotient}
use Rattle.solution_check.specs.declared.judgement.Answer.{Answer}
use Rattle.solution_check.specs.declared.judgement.Answer.TheVariants.{Stable, Not}
use Rattle.solution_check.specs.Breaks.{Judges}
use Rattle.solution_round_trip.specs.Laws.{AreNames, IsLabelInRange, PrintedSolutionIsReadBack, StableIsInRange, StableOfGroupsIsInRange}
use Rattle.solution_text.specs.declared.refusal.SolRefusal.{SolRefusal}
use Rattle.solution_text.specs.declared.refusal.SolRefusal.TheVariants as sol_refusal
use Rattle.solution_text.specs.Printed.{labels_text}
use Rattle.solution_text.specs.Solutions.{labels_of_text}
use Rattle.answer_kit.specs.declared.status.Status.TheVariants.{Done, Refused, NotStable}
use Rattle.answer_kit.specs.ClassNumbers.{class_at, no_class, IsOfClass}
use Rattle.answer_kit.specs.Outcome.{Outcome, done, refused, not_stable}
use Rattle.answer_kit.specs.SecondFiles.{long_solution, solution_reason, IsOfLabels, IsOfSolution}
use Rattle.answer_kit.proofs.OneClass.{some_prefix, found_in}
use Rattle.answer_solutions.specs.declared.sides.Sides.{Sides}
use Rattle.answer_solutions.specs.Carries.{AreSides, IsIfStable, IsOfStable, IsFolded, IsLifted, IsFoldOfLabels, IsLiftOfLabels, IsFoldOf, IsLiftOf}
use Rattle.answer_solutions.specs.Checks.{break_reason}
use Rattle.answer_solutions.specs.ReadBack.{IsReadAsFold, IsReadAsLift}
use Rattle.answer_solutions.proofs.GroupNames.{router_names, group_names}
use Rattle.answer_solutions.proofs.OneCarry.{quotient_of}
use Rattle.answer_solutions.proofs.SidesApart.{named, routers_apart, groups_apart}

-- ---- what is done is not refused

not_refused : (bytes reason : List ℕ) → done bytes ≡ refused reason → ⊥
not_refused bytes reason same = let one : Done ≡ Refused = ap (λ (o : Outcome). o.status) same in cc

not_broken : (bytes reason : List ℕ) → done bytes ≡ not_stable reason → ⊥
not_broken bytes reason same = let one : Done ≡ NotStable = ap (λ (o : Outcome). o.status) same in cc

out_of : (bytes other : List ℕ) → done bytes ≡ done other → bytes ≡ other
out_of bytes other same = ap (λ (o : Outcome). o.out) same

-- the labels that the text gives, and what is allowed of them
pub record IsGivenBy (P : Problem) (text : List ℕ) (A : List (Option Route) → Outcome → Type 0) (o : Outcome) : Type 0 where
  pub labels : List (Option Route)
  pub read : labels_of_text P.protocol P.names text ≡ Ok labels
  pub allowed : A labels o

given_by : (P : Problem) (text bytes : List ℕ) (A : List (Option Route) → Outcome → Type 0) (r : Result (List (Option Route)) SolRefusal)
    → labels_of_text P.protocol P.names text ≡ r → IsOfLabels A r (done bytes) → IsGivenBy P text A (done bytes)
given_by P text bytes A (Ok labels) is of = record { labels = labels; read = is; allowed = of }
given_by P text bytes A (Err (sol_refusal.At line kind)) is of = absurd (not_refused bytes (solution_reason line kind) of)
given_by P text bytes A (Err sol_refusal.Memory) is of = absurd of

given_text : (P : Problem) (text bytes : List ℕ) (A : List (Option Route) → Outcome → Type 0) → IsOfSolution P (Some text) A (done bytes)
    → IsGivenBy P text A (done bytes)
given_text P text bytes A (inl long) = absurd (not_refused bytes long_solution long.1)
given_text P text bytes A (inr short) = given_by P text bytes A (labels_of_text P.protocol P.names text) refl short.1

-- what is done was done with stable labels
if_stable : (P : Problem) (labels : List (Option Route)) (A : Outcome → Type 0) (bytes : List ℕ) (a : Answer) → Judges P labels a
    → IsIfStable P A a (done bytes) → IsStable P labels × A (done bytes)
if_stable P labels A bytes Stable judged told = (judged, told)
if_stable P labels A bytes (Not router why) judged told = absurd (not_broken bytes (break_reason P router why) told)

stable_labels : (P : Problem) (labels : List (Option Route)) (A : Outcome → Type 0) (bytes : List ℕ) → IsOfStable P labels A (done bytes) → IsStable P labels
    × A (done bytes)
stable_labels P labels A bytes is = if_stable P labels A bytes is.answer is.judged is.told

-- printed labels are read
read_again : (P : Problem) (labels : List (Option Route)) (bytes : List ℕ) → PrintedSolutionIsReadBack → IsProblem P → AreNames P.names → IsStable P labels
    → AllByRecursion (IsLabelInRange P.protocol) labels → bytes ≡ labels_text P.names labels
    → labels_of_text P.protocol P.names bytes ≡ Ok labels
read_again P labels bytes law rules names stable range is =
    ap (labels_of_text P.protocol P.names) is ∙ law P.protocol P.names labels names (stable.fitting.total ∙ sym rules.tables.names) range

module _ (n : Network) (given : ∥ IsGiven n ∥₁) (faultless : IsFaultless n) (quotient : QuotientIsQuotient) (formed : GivenIsWellFormed)
    (printed : PrintedSolutionIsReadBack) (class : DestClass) (has : Contains (classes_of n) class) (s : Sides) (are : AreSides n class s) where
  prefix : (p : Prefix) × Contains class.prefixes p
  prefix = some_prefix n class has

  problem_of : IsProblemOf n prefix.0 s.problem
  problem_of = are.built.of prefix.0 prefix.1

  names_of : AreNames s.problem.names
  names_of = record {
    each = subst (AllByRecursion (λ (name : List ℕ). is_router_name name ≡ true)) (sym problem_of.names) (router_names n.routers (formed n given).routers);
    apart = routers_apart n faultless class has s are;
  }

  names_of_groups : AreNames s.small.names
  names_of_groups = record {
    each = subst (λ (P : Problem). AllByRecursion (λ (name : List ℕ). is_router_name name ≡ true) P.names) (sym are.small_is)
        (group_names s.problem s.groups are.count are.numbered (named n faultless class has s are) names_of.each);
    apart = groups_apart n faultless class has s are;
  }

  is_quotient : IsQuotient s.problem s.groups s.small
  is_quotient = quotient_of n class has quotient s are

  fold_of_labels : StableOfGroupsIsInRange → (number : ℕ) → class_at (classes_of n) number ≡ Some class → (text bytes : List ℕ)
      → IsGivenBy s.problem text (IsFoldOfLabels s) (done bytes) → IsReadAsFold n number text bytes
  fold_of_labels range number at text bytes by =
      let z = stable_labels s.problem by.labels (IsFolded s by.labels) bytes by.allowed in
      let lower = z.1.lower in
      let below = z.1.is.stable in
      record {
        class = class;
        class_is = at;
        sides = s;
        are = are;
        quotient = is_quotient;
        labels = by.labels;
        lower = lower;
        read = by.read;
        reads = read_again s.small lower bytes printed are.small_rules names_of_groups below
            (range n given prefix.0 s.problem s.small s.groups lower problem_of are.small_rules is_quotient below)
            (out_of bytes (labels_text s.small.names lower) z.1.written);
        stable = z.0;
        stable_below = below;
        correspond = z.1.is.corresponds;
      }

  lift_of_labels : StableIsInRange → (number : ℕ) → class_at (classes_of n) number ≡ Some class → (text bytes : List ℕ)
      → IsGivenBy s.small text (IsLiftOfLabels s) (done bytes) → IsReadAsLift n number text bytes
  lift_of_labels range number at text bytes by =
      let z = stable_labels s.small by.labels (IsLifted s by.labels) bytes by.allowed in
      let labels = z.1.labels in
      let above = z.1.is.stable in
      record {
        class = class;
        class_is = at;
        sides = s;
        are = are;
        quotient = is_quotient;
        lower = by.labels;
        labels = labels;
        read = by.read;
        reads = read_again s.problem labels bytes printed problem_of.rules names_of above (range n given prefix.0 s.problem labels problem_of above)
            (out_of bytes (labels_text s.problem.names labels) z.1.written);
        stable = z.0;
        stable_above = above;
        correspond = z.1.is.corresponds;
      }

module _ (n : Network) (given : ∥ IsGiven n ∥₁) (faultless : IsFaultless n) (quotient : QuotientIsQuotient) (formed : GivenIsWellFormed)
    (printed : PrintedSolutionIsReadBack) (number : ℕ) (text bytes : List ℕ) where
  pub fold_read : StableOfGroupsIsInRange → (class : Option DestClass) → class_at (classes_of n) number ≡ class
      → IsOfClass class number (IsFoldOf n (Some text)) (done bytes) → IsReadAsFold n number text bytes
  fold_read range None at is = absurd (not_refused bytes (no_class number) is)
  fold_read range (Some class) at is =
      fold_of_labels n given faultless quotient formed printed class (found_in (classes_of n) (number - 1) class (nat_eq number 0) at) is.sides is.are range
      number at text bytes (given_text is.sides.problem text bytes (IsFoldOfLabels is.sides) is.solution)

  pub lift_read : StableIsInRange → (class : Option DestClass) → class_at (classes_of n) number ≡ class
      → IsOfClass class number (IsLiftOf n (Some text)) (done bytes) → IsReadAsLift n number text bytes
  lift_read range None at is = absurd (not_refused bytes (no_class number) is)
  lift_read range (Some class) at is =
      lift_of_labels n given faultless quotient formed printed class (found_in (classes_of n) (number - 1) class (nat_eq number 0) at) is.sides is.are range
      number at text bytes (given_text is.sides.small text bytes (IsLiftOfLabels is.sides) is.solution)
