-- Verdicts of a problem and of its quotient.
use Rattle.std.proofs.Common.{ℕ, List, Option}
use Rattle.quotient_laws.specs.Questions.{IsQuotiented}
use Rattle.srp_core.specs.declared.route.Route.{Route}
use Rattle.srp_core.specs.Laws.{Below, Above}
use Rattle.srp_core.specs.Problem.{Problem}
use Rattle.srp_core.specs.Stability.{IsStable}
use Rattle.srp_questions.specs.declared.question.Question.{Question}
use Rattle.srp_questions.specs.declared.verdict.Verdict.{Verdict}
use Rattle.srp_questions.specs.declared.verdict.Verdict.TheVariants.{Yes, No, NoSolution}
use Rattle.srp_questions.specs.Answers.{IsVerdict}
use Rattle.srp_questions.specs.Questions.{IsTrueIn, IsAskedOf, way_of}
use Rattle.question_laws.specs.Small.{in_groups, AreWholeGroups, HaveOneVerdict}
use Rattle.question_laws.proofs.Corresponding.{true_below, true_above}

module _ (problem small : Problem) (groups : List ℕ) (asked : Question) (q : IsQuotiented problem small groups) (is : IsAskedOf problem asked)
    (whole : AreWholeGroups problem groups (way_of asked)) (below : (L : List (Option Route)) → IsStable problem L → Below problem small groups L)
    (above : (M : List (Option Route)) → IsStable small M → Above problem small groups M) where
  there : (verdict : Verdict) → IsVerdict problem (IsTrueIn asked problem) verdict → IsVerdict small (IsTrueIn (in_groups groups asked) small) verdict
  there Yes v = (let b = below v.some v.stable in record {
    some = b.lower;
    stable = b.stable;
    all = λ M st. (let a = above M st in
        true_below problem small groups q.rules q.quotient a.labels M a.correspond asked is whole (v.all a.labels a.stable));
  })
  there No v = (let b = below v.labels v.stable in record {
    labels = b.lower;
    stable = b.stable;
    fails = λ t. v.fails (true_above problem small groups q.rules q.quotient v.labels b.lower b.correspond asked is whole t);
  })
  there NoSolution v = λ M st. (let a = above M st in v a.labels a.stable)

  back : (verdict : Verdict) → IsVerdict small (IsTrueIn (in_groups groups asked) small) verdict → IsVerdict problem (IsTrueIn asked problem) verdict
  back Yes v = (let a = above v.some v.stable in record {
    some = a.labels;
    stable = a.stable;
    all = λ L st. (let b = below L st in
        true_above problem small groups q.rules q.quotient L b.lower b.correspond asked is whole (v.all b.lower b.stable));
  })
  back No v = (let a = above v.labels v.stable in record {
    labels = a.labels;
    stable = a.stable;
    fails = λ t. v.fails (true_below problem small groups q.rules q.quotient a.labels v.labels a.correspond asked is whole t);
  })
  back NoSolution v = λ L st. (let b = below L st in v b.lower b.stable)

  pub one_verdict : HaveOneVerdict problem asked small (in_groups groups asked)
  one_verdict = record { there = there; back = back }
