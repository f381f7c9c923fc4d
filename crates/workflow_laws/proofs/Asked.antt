-- The small network answers for the large one.
use Rattle.std.proofs.Common.{◌≡◌, sym, ◌∙◌, subst}
use Rattle.cfg_ast.specs.declared.network.Network.{Network}
use Rattle.compress_laws.specs.Compressed.{Compresses}
use Rattle.compress_laws.specs.Laws.{FittingPlanCompresses}
use Rattle.quotient_laws.specs.Questions.{GroupQuestionCarries, IsQuotiented, Picture, PicturesAgree, QuestionsCarry}
use Rattle.reading_laws.specs.WellRead.{WhatIsReadIsWell}
use Rattle.srp_core.specs.ProblemOf.{IsProblemOf}
use Rattle.answer_kit.proofs.OneClass.{some_prefix}
use Rattle.workflow_laws.specs.Questions.{EachQuestionCarries, SmallAnswersForLarge}
use Rattle.workflow_laws.proofs.Kept.{fitting_text, one_network}
use Rattle.workflow_laws.proofs.SomeClass.{has_class}
use Rattle.workflow_laws.proofs.Written.{WrittenFits}

pub small_answers_for_large : WhatIsReadIsWell → WrittenFits → FittingPlanCompresses → PicturesAgree → QuestionsCarry → SmallAnswersForLarge
small_answers_for_large well fits compresses agree carry contents F G N K c =
    let n = c.of_large.network in
    let class = c.of_large.class in
    let m = c.of_small.network in
    let read = well c.large n c.of_large.reads in
    let has = has_class n N class c.of_large.class_is in
    let t = fitting_text well contents F G N K c fits in
    let k : Compresses n class c.small =
    subst (Compresses n class) (sym t.text) (compresses n class t.plan ∣ (c.large, read.given) ∣₁ read.faultless has t.is t.apart t.short) in
    let same : k.read ≡ m = one_network k.read m (sym k.reads ∙ c.of_small.reads) in
    let first = some_prefix n class has in
    record {
      some = first.0;
      some_in = first.1;
      groups = k.groups;
      have = λ p i. (
          let f = k.for_each p i in
          record {
            above = f.problem;
            below = f.small;
            of_large = f.of;
            of_small = subst (λ (r : Network). IsProblemOf r p f.small) same f.of_read;
          });
      alike = λ p i above below of of_small. (
          let below_read : IsProblemOf k.read p below = subst (λ (r : Network). IsProblemOf r p below) (sym same) of_small in
          let f = k.for_each p i in
          let coarsest = f.coarsest above of in
          let quotient = f.quotient above below of below_read in
          let q : IsQuotiented above below k.groups =
          record { rules = of.rules; small_rules = of_small.rules; admissible = coarsest.admissible; quotient = quotient } in
          record { coarsest = coarsest; quotient = quotient; pictures = agree above below k.groups q; questions = carry above below k.groups q });
    }

-- whatever is asked
pub each_question_carries : (asks : Picture → Type 0) → SmallAnswersForLarge → GroupQuestionCarries asks → EachQuestionCarries asks
each_question_carries asks small carry contents F G N K c =
    let a = small contents F G N K c in
    record {
      groups = a.groups;
      alike = λ p i above below of of_small. (
          let x = a.alike p i above below of of_small in
          let q : IsQuotiented above below a.groups =
          record { rules = of.rules; small_rules = of_small.rules; admissible = x.coarsest.admissible; quotient = x.quotient } in
          record { coarsest = x.coarsest; quotient = x.quotient; one = carry above below a.groups q });
    }
