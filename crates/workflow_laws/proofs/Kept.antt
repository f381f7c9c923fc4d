-- What is known of a network that was read, and of the small network that was written.
use Rattle.std.proofs.Common.{◌≡◌, ◌≤◌, ℕ, List, sym, ap, ◌∙◌, subst, Some, Result, Ok, length}
use Rattle.std.specs.Prelude.{Contains}
use Rattle.base_kit.specs.Prefixes.{Prefix}
use Rattle.cfg_ast.specs.declared.classes.DestClass.{DestClass}
use Rattle.cfg_ast.specs.declared.network.Network.{Network}
use Rattle.cfg_ast.specs.declared.refusal.ReadRefusal.{ReadRefusal}
use Rattle.cfg_ast.specs.meaning.Classes.{classes_of}
use Rattle.cfg_ast.specs.text.Reading.{reading_of}
use Rattle.class_laws.specs.Laws.{BuiltProblemIsOne}
use Rattle.compress_laws.proofs.Alike.{problem_too}
use Rattle.compress_laws.proofs.Texts.{short_text}
use Rattle.compress_laws.specs.Built.{IsPlanFor}
use Rattle.compress_laws.specs.Laws.{compressed_text, FitsClass}
use Rattle.config_emit.specs.Plan.{Plan, small}
use Rattle.reading_laws.specs.WellRead.{WhatIsReadIsWell}
use Rattle.srp_core.specs.ProblemOf.{IsProblemOf}
use Rattle.srp_quotient.specs.Laws.{QuotientIsQuotient}
use Rattle.answer_kit.specs.ClassNumbers.{class_at}
use Rattle.answer_solutions.specs.declared.sides.Sides.{Sides}
use Rattle.answer_solutions.specs.Carries.{AreSides}
use Rattle.bonsai_top.specs.Outcomes.{text_limit}
use Rattle.workflow_laws.specs.Setting.{Contents, IsCompressed, IsShort}
use Rattle.workflow_laws.specs.Written.{FittingTextHasProblemOfGroups}
use Rattle.workflow_laws.proofs.FewClasses.{short_of_class}
use Rattle.workflow_laws.proofs.SomeClass.{has_class}
use Rattle.workflow_laws.proofs.Written.{written_of, IsFittingText, groups_alike, WrittenFits}

pub one_network : (n m : Network) → (let r : Result Network ReadRefusal = Ok n in r) ≡ Ok m → n ≡ m
one_network n m e = cc

one_class : (class other : DestClass) → Some class ≡ Some other → class ≡ other
one_class class other e = cc

-- The small network: its text is short, and it has the problem of the groups for each prefix of the class.
pub record IsSmall (n : Network) (class : DestClass) (bytes : List ℕ) (m : Network) : Type 0 where
  pub short : length bytes ≤ text_limit
  pub plan : Plan
  pub is : IsPlanFor FitsClass n class plan
  pub of_plan : (p : Prefix) → Contains class.prefixes p → IsProblemOf m p (small plan)
  pub of_groups : (s : Sides) → AreSides n class s → (p : Prefix) → Contains class.prefixes p → IsProblemOf m p s.small

module _ (well : WhatIsReadIsWell) (contents : Contents) (F G : List ℕ) (N K : ℕ) (c : IsCompressed contents F N G K) where
  -- both numbers are such as words may have
  pub short_large : IsShort N
  short_large = short_of_class well c.large N c.of_large

  pub short_small : IsShort K
  short_small = short_of_class well c.small K c.of_small

  module _ (fits : WrittenFits) where
    -- the text that was written
    pub fitting_text : IsFittingText c.of_large.network c.of_large.class c.small
    fitting_text =
        let w = written_of well fits contents F N short_large c.large c.holds c.small c.wrote in
        let networks : w.network ≡ c.of_large.network = one_network w.network c.of_large.network (sym w.reads ∙ c.of_large.reads) in
        let classes : w.class ≡ c.of_large.class = one_class w.class c.of_large.class
        (sym w.class_is ∙ (ap (λ (n : Network). class_at (classes_of n) N) networks ∙ c.of_large.class_is)) in
        subst (λ (class : DestClass). IsFittingText c.of_large.network class c.small) classes
        (subst (λ (n : Network). IsFittingText n w.class c.small) networks w.text)

    pub large_within : length c.large ≤ text_limit
    large_within = (written_of well fits contents F N short_large c.large c.holds c.small c.wrote).within

-- the laws by which the small network is known
pub record SmallLaws : Type 0 where
  pub well : WhatIsReadIsWell
  pub built : BuiltProblemIsOne
  pub fits : WrittenFits
  pub has_problem : FittingTextHasProblemOfGroups
  pub is_quotient : QuotientIsQuotient

module _ (laws : SmallLaws) (contents : Contents) (F G : List ℕ) (N K : ℕ) (c : IsCompressed contents F N G K) where
  pub small_network : IsSmall c.of_large.network c.of_large.class c.small c.of_small.network
  small_network =
      let n = c.of_large.network in
      let class = c.of_large.class in
      let m = c.of_small.network in
      let read = laws.well c.large n c.of_large.reads in
      let has = has_class n N class c.of_large.class_is in
      let t = fitting_text laws.well contents F G N K c laws.fits in
      let r = laws.has_problem n class t.plan ∣ (c.large, read.given) ∣₁ read.faultless has t.is t.apart t.short in
      let same : r.read ≡ m = one_network r.read m (sym r.reads ∙ ap reading_of (sym t.text) ∙ c.of_small.reads) in
      let own : (p : Prefix) → Contains class.prefixes p → IsProblemOf m p (small t.plan) =
      λ p i. subst (λ (k : Network). IsProblemOf k p (small t.plan)) same
      (r.problem p (subst (λ (d : DestClass). Contains d.prefixes p) (sym t.is.class_is) i)) in
      record {
        short = subst (λ (bs : List ℕ). length bs ≤ text_limit) (sym t.text) (short_text (compressed_text t.plan) t.short);
        plan = t.plan;
        is = t.is;
        of_plan = own;
        of_groups = λ s are p i. problem_too m p (small t.plan) s.small (own p i) are.small_rules
            (groups_alike laws.is_quotient laws.built n class has c.small t s are);
      }
