-- What `compress` or `canon` wrote is the text of a plan with a problem that fits the class. The problem has the edges of
-- the one that is built for the class, and they act alike.
use Rattle.std.proofs.Common.{◌≡◌, ◌≤◌, ℕ, Bool, true, false, ◌||◌, List, arith, inl, inr, Option, Some, None, Ok, refl, sym, ap, ◌∙◌, subst, length, codes}
use Rattle.std.specs.Prelude.{Contains, nat_lt}
use Rattle.std.proofs.lemmas.Bool.Decides.{nat_tests}
use Rattle.base_kit.specs.Partition.{IsNumbered}
use Rattle.cfg_ast.specs.declared.classes.DestClass.{DestClass}
use Rattle.cfg_ast.specs.declared.network.Network.{Network}
use Rattle.cfg_ast.specs.meaning.Classes.{classes_of}
use Rattle.cfg_ast.specs.meaning.Meaning.{judged}
use Rattle.cfg_ast.specs.text.Reading.{IsGiven, network_of_text, reading_of}
use Rattle.cfg_check.specs.Faultless.{IsFaultless}
use Rattle.cfg_print.specs.Prints.{count_newlines, is_too_long}
use Rattle.class_laws.specs.Laws.{BuiltProblemIsOne}
use Rattle.compress_laws.proofs.Plans.{plan_as}
use Rattle.compress_laws.specs.Built.{IsPlanFor, IsPlanOf}
use Rattle.compress_laws.specs.Laws.{compressed_text, BuiltFits, FitsClass, FittingPlanFits}
use Rattle.cfg_check.specs.Laws.{FaultlessIsAccepted}
use Rattle.cfg_round_trip.specs.Laws.{PrintedIsReadBack}
use Rattle.config_emit.specs.Emitted.{emitted, notes_of}
use Rattle.config_emit.specs.Laws.{EmittedCanBePrinted, EmittedStandsForGroups}
use Rattle.config_emit.specs.Plan.{Plan, small}
use Rattle.config_emit.specs.Pool.{pool_line}
use Rattle.reading_laws.specs.WellRead.{WhatIsReadIsWell}
use Rattle.srp_build.specs.Built.{IsBuiltFor}
use Rattle.srp_core.proofs.Alike.{turned}
use Rattle.srp_core.proofs.AlikeOf.{one_problem as problems_alike}
use Rattle.srp_core.specs.Alike.{ProblemsAlike}
use Rattle.srp_core.specs.Problem.{Problem, IsProblem}
use Rattle.srp_quotient.specs.Groups.{quotient_problem, small_of}
use Rattle.srp_quotient.specs.Laws.{QuotientIsQuotient}
use Rattle.answer_groups.specs.CanonLaws.{CanonicalFits}
use Rattle.answer_groups.specs.CanonText.{no_canon, IsCanonicalFor, IsCanonicalPlanOf, IsCanonOf}
use Rattle.answer_groups.specs.CompressText.{pool_overlap, IsCompressOf, IsTextOr, IsTextOfPlan, IsUnlessPool}
use Rattle.answer_kit.specs.ClassNumbers.{class_at}
use Rattle.answer_kit.specs.Outcome.{Outcome, done}
use Rattle.answer_kit.proofs.NumberedOnce.{one_count_of_groups}
use Rattle.answer_kit.proofs.OneClass.{some_prefix, one_list_of_groups}
use Rattle.answer_solutions.specs.Carries.{AreSides}
use Rattle.answer_solutions.specs.declared.sides.Sides.{Sides}
use Rattle.bonsai_top.specs.Outcomes.{text_limit}
use Rattle.carried_laws.proofs.Carried.{not_refused}
use Rattle.workflow_laws.specs.Commands as command
use Rattle.workflow_laws.specs.Setting.{Contents, IsShort, IsWritten}
use Rattle.workflow_laws.specs.Words.{canon, compress}
use Rattle.workflow_laws.specs.Written.{FittingTextHasProblemOfGroups}
use Rattle.workflow_laws.proofs.Answers.{done_reading}
use Rattle.workflow_laws.proofs.Named.{names_canon, names_compress}
use Rattle.workflow_laws.proofs.SmallAlike.{small_alike}
use Rattle.workflow_laws.proofs.SomeClass.{has_class, some_class}

second : (a b : Bool) → (a || b) ≡ false → b ≡ false
second true b e = absurd cc
second false b e = e

pub few_lines : (bs : List ℕ) → is_too_long bs ≡ false → count_newlines bs ≤ 1000000
unfolding is_too_long
few_lines bs e = let f = second (nat_lt 16777216 (length bs)) (nat_lt 1000000 (count_newlines bs)) e in grind (arith, nat_tests)

accepted_text : (read : Network) (bytes : List ℕ) → network_of_text bytes ≡ Ok read → judged read ≡ Ok read → reading_of bytes ≡ Ok read
unfolding reading_of
accepted_text read bytes reads ok = rw reads ok

pub fitting_text_has_problem : FittingPlanFits → EmittedCanBePrinted → EmittedStandsForGroups → PrintedIsReadBack → FaultlessIsAccepted
    → FittingTextHasProblemOfGroups
fitting_text_has_problem fits printed stands back accepted n class e given ok has is apart short =
    let plan = fits n class e given ok has is apart in
    let can = printed e plan in
    let again = back (emitted e) (notes_of e) can.well_formed can.notes (few_lines (compressed_text e) short) can.short in
    let read = stands e plan again.read again.same in
    record {
      read = again.read;
      reads = accepted_text again.read (compressed_text e) again.reads (accepted again.read read.faultless);
      problem = read.problem;
    }

-- ---- the text of an allowed plan

record IsTextOf (IsAllowed : Plan → Type 0) (n : Network) (class : DestClass) (bytes : List ℕ) : Type 0 where
  plan : Plan
  is : IsAllowed plan
  apart : pool_line n class ≡ None
  short : is_too_long (compressed_text plan) ≡ false
  text : bytes ≡ compressed_text plan

module _ (IsAllowed : Plan → Type 0) (n : Network) (class : DestClass) (bytes : List ℕ) where
  of_length : (plan : Plan) → IsAllowed plan → pool_line n class ≡ None → (b : Bool) → is_too_long (compressed_text plan) ≡ b
      → IsTextOr b (compressed_text plan) (done bytes) → IsTextOf IsAllowed n class bytes
  of_length plan is apart true long written = absurd (not_refused bytes (codes "OutputTooLong") written)
  of_length plan is apart false short written = record { plan = plan; is = is; apart = apart; short = short; text = ap (λ (o : Outcome). o.out) written }

  of_pool : (pool : Option ℕ) → pool_line n class ≡ pool → IsUnlessPool pool (IsTextOfPlan IsAllowed) (done bytes) → IsTextOf IsAllowed n class bytes
  of_pool (Some line) at is = absurd (not_refused bytes (pool_overlap line) is)
  of_pool None at is = of_length is.plan is.is at (is_too_long (compressed_text is.plan)) refl is.written

-- ---- the text of either command

pub record IsFittingText (n : Network) (class : DestClass) (bytes : List ℕ) : Type 0 where
  pub plan : Plan
  pub is : IsPlanFor FitsClass n class plan
  pub original : Problem
  pub built : IsBuiltFor n class original
  pub edges : original.edges ≡ plan.problem.edges
  pub apart : pool_line n class ≡ None
  pub short : is_too_long (compressed_text plan) ≡ false
  pub text : bytes ≡ compressed_text plan

-- the problems of both commands fit the class
pub record WrittenFits : Type 0 where
  pub built : BuiltFits
  pub canonical : CanonicalFits

module _ (fits : WrittenFits) (n : Network) (given : ∥ IsGiven n ∥₁) (faultless : IsFaultless n) (class : DestClass) (has : Contains (classes_of n) class)
    (bytes : List ℕ) where
  by_compress : IsCompressOf n class (done bytes) → IsFittingText n class bytes
  by_compress is =
      let t = of_pool (IsPlanOf n class) n class bytes (pool_line n class) refl is in
      record {
        plan = t.plan;
        is = plan_as IsBuiltFor FitsClass n class (λ problem built. fits.built n class problem given faultless has built) t.plan t.is;
        original = t.plan.problem;
        built = t.is.built;
        edges = refl;
        apart = t.apart;
        short = t.short;
        text = t.text;
      }

  by_canon : IsCanonOf n class (done bytes) → IsFittingText n class bytes
  by_canon (inl without) = absurd (not_refused bytes (no_canon without.problem without.first.edge) without.told)
  by_canon (inr x) =
      let t = of_pool (IsCanonicalPlanOf n class) n class bytes (pool_line n class) refl x.emission in
      record {
        plan = t.plan;
        is = plan_as IsCanonicalFor FitsClass n class (λ problem is.
            fits.canonical n class problem (record { given = given; faultless = faultless; class_in = has; is = is })) t.plan t.is;
        original = t.is.built.original;
        built = t.is.built.built;
        edges = sym t.is.built.canonical.edges;
        apart = t.apart;
        short = t.short;
        text = t.text;
      }

-- ---- what was written of a text

-- the class of the text, and the text that was written of it
pub record IsWrittenOf (large : List ℕ) (N : ℕ) (bytes : List ℕ) : Type 0 where
  pub network : Network
  pub reads : reading_of large ≡ Ok network
  pub within : length large ≤ text_limit
  pub class : DestClass
  pub class_is : class_at (classes_of network) N ≡ Some class
  pub text : IsFittingText network class bytes

module _ (well : WhatIsReadIsWell) (fits : WrittenFits) (contents : Contents) (F : List ℕ) (N : ℕ) (short : IsShort N) (large : List ℕ)
    (holds : contents F ≡ Some large) (bytes : List ℕ) where
  pub written_of : IsWritten contents F N bytes → IsWrittenOf large N bytes
  written_of (inl x) =
      let d = done_reading (compress F N) contents (command.Compress N) refl (names_compress F N short) large holds bytes x in
      let n = d.network in
      let read = well large n d.read in
      let r = some_class n N (IsCompressOf n) bytes (class_at (classes_of n) N) refl d.over.answer in
      record {
        network = n;
        reads = d.read;
        within = d.over.short;
        class = r.class;
        class_is = r.class_is;
        text = by_compress fits n ∣ (large, read.given) ∣₁ read.faultless r.class (has_class n N r.class r.class_is) bytes r.allowed;
      }
  written_of (inr x) =
      let d = done_reading (canon F N) contents (command.Canon N) refl (names_canon F N short) large holds bytes x in
      let n = d.network in
      let read = well large n d.read in
      let r = some_class n N (IsCanonOf n) bytes (class_at (classes_of n) N) refl d.over.answer in
      record {
        network = n;
        reads = d.read;
        within = d.over.short;
        class = r.class;
        class_is = r.class_is;
        text = by_canon fits n ∣ (large, read.given) ∣₁ read.faultless r.class (has_class n N r.class r.class_is) bytes r.allowed;
      }

-- ---- the problem of the groups

module _ (is_quotient : QuotientIsQuotient) (built : BuiltProblemIsOne) (n : Network) (class : DestClass) (has : Contains (classes_of n) class)
    (bytes : List ℕ) (t : IsFittingText n class bytes) (s : Sides) (are : AreSides n class s) where
  -- it is alike to the problem to which labels are carried
  pub groups_alike : ProblemsAlike (small t.plan) s.small
  groups_alike =
      let p = some_prefix n class has in
      let e = t.plan in
      let own = are.built.of p.0 p.1 in
      let alike = problems_alike n p.0 s.problem e.problem own (t.is.built.of p.0 p.1) in
      let groups = one_list_of_groups s.problem e.problem alike s.groups e.groups are.count e.count are.coarsest t.is.coarsest are.numbered t.is.numbered in
      let counts = one_count_of_groups e.groups are.count e.count (subst (λ (g : List ℕ). IsNumbered g are.count) groups are.numbered) t.is.numbered in
      let edges : s.problem.edges ≡ e.problem.edges =
      ap (λ (q : Problem). q.edges) (built n class has s.problem t.original are.built t.built) ∙ t.edges in
      let small_is : small_of e.problem s.groups are.count ≡ small e =
      (λ j. small_of e.problem (groups j) (counts j)) ∙ sym (ap (quotient_problem e.problem e.groups e.count) t.is.links) in
      let one = small_alike is_quotient s.problem own.rules s.groups are.count are.coarsest.admissible are.numbered
      (subst IsProblem are.small_is are.small_rules)
      e.problem alike edges in
      turned s.small (small e) (subst (λ (q : Problem). ProblemsAlike q (small e)) (sym are.small_is)
      (subst (λ (q : Problem). ProblemsAlike (small_of s.problem s.groups are.count) q) small_is one))
