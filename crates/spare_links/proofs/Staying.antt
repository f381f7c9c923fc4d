-- The verdict on a question without a link that is spare.
use Rattle.std.proofs.Common.{List}
use Rattle.std.specs.Prelude.{Option}
use Rattle.asking_laws.specs.Spare.{NoneBecomesLone, NoTieHolds, SpareLinksBringNoTie}
use Rattle.asking_laws.specs.Unique.{OneIsAll}
use Rattle.question_laws.specs.Kept.{KeepsAnswer, SpareLinksKeepAnswers}
use Rattle.srp_core.specs.Problem.{Problem}
use Rattle.srp_core.specs.declared.route.Route.{Route}
use Rattle.srp_core.specs.Stability.{IsStable}
use Rattle.srp_questions.specs.declared.question.Question.{Question}
use Rattle.srp_questions.specs.declared.verdict.Verdict.{Verdict}
use Rattle.srp_questions.specs.declared.verdict.Verdict.TheVariants.{Yes, No, NoSolution}
use Rattle.srp_questions.specs.Answers.{IsVerdict}
use Rattle.srp_questions.specs.Questions.{IsTrueIn}
use Rattle.spare_links.specs.Spare.{link_down, IsVerdictKept, SpareLinksKeepVerdicts}
use Rattle.spare_links.proofs.Left.{left_over, is_without}

-- labels that are stable, and the verdict
record HasVerdict (problem : Problem) (asked : Question) (verdict : Verdict) : Type 0 where
  labels : List (Option Route)
  stable : IsStable problem labels
  is : IsVerdict problem (IsTrueIn asked problem) verdict

kept : (P Q : Problem) (asked : Question) (verdict : Verdict) → KeepsAnswer P Q asked → IsVerdictKept asked verdict → IsVerdict P (IsTrueIn asked P) verdict →
    HasVerdict Q asked verdict
kept P Q asked Yes keeps is_kept is = let v = keeps.yes is in record { labels = v.some; stable = v.stable; is = v }
kept P Q asked No keeps is_kept is = let v = keeps.no is_kept is in record { labels = v.labels; stable = v.stable; is = v }
kept P Q asked NoSolution keeps is_kept is = absurd is_kept

pub stays : NoneBecomesLone → OneIsAll → NoTieHolds → SpareLinksBringNoTie → SpareLinksKeepAnswers → SpareLinksKeepVerdicts
stays becomes one unbroken bring keep P L marks tied link asked verdict are marked is_asked is_kept is =
    let loses = are.spare link marked in
    let other = left_over P loses.rules loses.none_lone link in
    let without = is_without P loses.rules loses.none_lone link in
    let found = kept P other asked verdict (keep P other (link_down link) L asked loses without is_asked) is_kept is in
    let none = becomes P other (link_down link) loses.rules loses.none_lone without in
    record {
      other = other;
      without = without;
      is = found.is;
      solution = found.labels;
      all = one other found.labels without.rules none found.stable;
      holds = λ none_tied. unbroken other found.labels without.rules none found.stable
          (bring P other (link_down link) L found.labels loses without found.stable (are.untied none_tied));
    }
