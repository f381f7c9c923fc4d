-- Public: stable labels of the groups are stable in the network that is written.
use Rattle.std.proofs.Common.{◌≡◌, ℕ, ◌-◌, Bool, true, false, List, Option, Some, None, Ok, refl, sym, ap, ◌∙◌, subst}
use Rattle.std.specs.Prelude.{Contains, codes, nat_eq}
use Rattle.base_kit.specs.Partition.{IsNumbered}
use Rattle.base_kit.specs.Prefixes.{Prefix}
use Rattle.cfg_ast.specs.declared.network.Network.{Network}
use Rattle.cfg_ast.specs.declared.classes.DestClass.{DestClass}
use Rattle.cfg_ast.specs.meaning.Classes.{classes_of}
use Rattle.cfg_ast.specs.text.Reading.{IsGiven, reading_of}
use Rattle.cfg_check.specs.Faultless.{IsFaultless}
use Rattle.cfg_print.specs.Prints.{is_too_long}
use Rattle.config_emit.specs.Plan.{Plan, small}
use Rattle.config_emit.specs.Pool.{pool_line}
use Rattle.srp_core.specs.declared.route.Route.{Route}
use Rattle.srp_core.specs.Problem.{Problem}
use Rattle.srp_core.specs.ProblemOf.{IsProblemOf}
use Rattle.srp_core.specs.Stability.{IsStable}
use Rattle.srp_core.proofs.Alike.{same_stable}
use Rattle.srp_core.proofs.AlikeOf.{one_problem as problems_alike}
use Rattle.srp_quotient.specs.Groups.{quotient_problem, small_of}
use Rattle.class_laws.specs.Laws.{BuiltProblemIsOne}
use Rattle.compress_laws.specs.Built.{IsPlanOf}
use Rattle.compress_laws.specs.Laws.{compressed_text, TextHasProblemOfGroups}
use Rattle.solution_text.specs.Solutions.{labels_of_text}
use Rattle.answer_kit.specs.declared.status.Status.TheVariants.{Done, Refused}
use Rattle.answer_kit.specs.ClassNumbers.{class_at, IsOfClass}
use Rattle.answer_kit.specs.Outcome.{Outcome, done, refused}
use Rattle.answer_kit.proofs.NumberedOnce.{one_count_of_groups}
use Rattle.answer_kit.proofs.OneClass.{some_prefix, found_in, one_list_of_groups}
use Rattle.answer_groups.specs.CompressText.{pool_overlap, IsTextOr, IsEmission, IsUnlessPool, IsCompressOf, IsCompressAnswer}
use Rattle.answer_solutions.specs.declared.sides.Sides.{Sides}
use Rattle.answer_solutions.specs.Carries.{AreSides}
use Rattle.answer_solutions.specs.ReadBack.{FoldIsReadBack, LiftIsReadBack}
use Rattle.carried_laws.specs.Laws.{Solves, FoldSolvesCompressed, LiftTakesCompressed}

pub not_refused : (bytes reason : List ℕ) → done bytes ≡ refused reason → ⊥
not_refused bytes reason same = let one : Done ≡ Refused = ap (λ (o : Outcome). o.status) same in cc

-- ---- what was written is the text of the class's plan

pub record IsPlanText (n : Network) (class : DestClass) (bytes : List ℕ) : Type 0 where
  pub plan : Plan
  pub is : IsPlanOf n class plan
  pub apart : pool_line n class ≡ None
  pub short : is_too_long (compressed_text plan) ≡ false
  pub text : bytes ≡ compressed_text plan

module _ (n : Network) (class : DestClass) (bytes : List ℕ) where
  of_length : (plan : Plan) → IsPlanOf n class plan → pool_line n class ≡ None → (b : Bool) → is_too_long (compressed_text plan) ≡ b
      → IsTextOr b (compressed_text plan) (done bytes) → IsPlanText n class bytes
  of_length plan is apart true long written = absurd (not_refused bytes (codes "OutputTooLong") written)
  of_length plan is apart false short written = record { plan = plan; is = is; apart = apart; short = short; text = ap (λ (o : Outcome). o.out) written }

  of_pool : (pool : Option ℕ) → pool_line n class ≡ pool → IsUnlessPool pool (IsEmission n class) (done bytes) → IsPlanText n class bytes
  of_pool (Some line) at is = absurd (not_refused bytes (pool_overlap line) is)
  of_pool None at is = of_length is.plan is.is at (is_too_long (compressed_text is.plan)) refl is.written

pub plan_text : (n : Network) (number : ℕ) (class : DestClass) (bytes : List ℕ) → class_at (classes_of n) number ≡ Some class
    → IsCompressAnswer n number (done bytes) → IsPlanText n class bytes
plan_text n number class bytes at is =
    of_pool n class bytes (pool_line n class) refl (subst (λ (found : Option DestClass). IsOfClass found number (IsCompressOf n) (done bytes)) at is)

-- ---- one problem of the groups

module _ (n : Network) (class : DestClass) (has : Contains (classes_of n) class) (built : BuiltProblemIsOne) (e : Plan) (plan : IsPlanOf n class e) (s : Sides)
    (are : AreSides n class s) where
  pub one_small : s.small ≡ small e
  one_small =
      let p = some_prefix n class has in
      let problems = built n class has s.problem e.problem are.built plan.built in
      let alike = problems_alike n p.0 s.problem e.problem (are.built.of p.0 p.1) (plan.built.of p.0 p.1) in
      let groups = one_list_of_groups s.problem e.problem alike s.groups e.groups are.count e.count are.coarsest plan.coarsest are.numbered plan.numbered in
      let counts = one_count_of_groups e.groups are.count e.count (subst (λ (g : List ℕ). IsNumbered g are.count) groups are.numbered) plan.numbered in
      are.small_is ∙ ((λ j. small_of (problems j) (groups j) (counts j)) ∙ sym (ap (quotient_problem e.problem e.groups e.count) plan.links))

-- ---- stable labels of the groups

same_reading : (P Q : Problem) → P.protocol ≡ Q.protocol → P.names ≡ Q.names → (bytes : List ℕ)
    → labels_of_text P.protocol P.names bytes ≡ labels_of_text Q.protocol Q.names bytes
same_reading P Q protocols names bytes = λ j. labels_of_text (protocols j) (names j) bytes

module _ (has_problem : TextHasProblemOfGroups) (built : BuiltProblemIsOne) (n : Network) (given : ∥ IsGiven n ∥₁) (faultless : IsFaultless n) (number : ℕ)
    (class : DestClass) (at : class_at (classes_of n) number ≡ Some class) (s : Sides) (are : AreSides n class s) where
  solves : (solution configurations : List ℕ) (labels : List (Option Route)) → IsCompressAnswer n number (done configurations)
      → labels_of_text s.small.protocol s.small.names solution ≡ Ok labels → IsStable s.small labels → Solves solution configurations class
  solves solution configurations labels written reads stable =
      let has = found_in (classes_of n) (number - 1) class (nat_eq number 0) at in
      let t = plan_text n number class configurations at written in
      let r = has_problem n class t.plan given faultless has t.is t.apart t.short in
      let one = one_small n class has built t.plan t.is s are in
      let own : (p : Prefix) → Contains class.prefixes p → IsProblemOf r.read p s.small = λ p i.
      subst (IsProblemOf r.read p) (sym one) (r.problem p (subst (λ (c : DestClass). Contains c.prefixes p) (sym t.is.class_is) i)) in
      record {
        read = r.read;
        reads = subst (λ (bytes : List ℕ). reading_of bytes ≡ Ok r.read) (sym t.text) r.reads;
        problem = λ p i. (s.small, own p i);
        stable = λ p i problem of. (
            let alike = problems_alike r.read p s.small problem (own p i) of in
            record {
              labels = labels;
              reads = sym (same_reading s.small problem alike.protocol alike.names solution) ∙ reads;
              stable =
                  same_stable s.small problem alike labels stable;
            });
      }

pub fold_solves : FoldIsReadBack → BuiltProblemIsOne → TextHasProblemOfGroups → FoldSolvesCompressed
fold_solves back built has_problem n given faultless number solution written configurations compressed folded =
    let f = back n given faultless number solution written folded in
    record {
      class = f.class;
      class_is = f.class_is;
      solves =
          solves has_problem built n given faultless number f.class f.class_is f.sides f.are written configurations f.lower compressed f.reads f.stable_below;
    }

pub lift_takes : LiftIsReadBack → BuiltProblemIsOne → TextHasProblemOfGroups → LiftTakesCompressed
lift_takes back built has_problem n given faultless number solution written configurations compressed lifted =
    let l = back n given faultless number solution written lifted in
    record {
      class = l.class;
      class_is = l.class_is;
      solves =
          solves has_problem built n given faultless number l.class l.class_is l.sides l.are solution configurations l.lower compressed l.read l.stable;
    }
