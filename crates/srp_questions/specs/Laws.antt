-- Laws of questions and their answers.
use Rattle.std.specs.Prelude.{◌≡◌, List, Option}
use Rattle.srp_core.specs.declared.route.Route.{Route}
use Rattle.srp_core.specs.Problem.{Problem, IsProblem}
use Rattle.srp_core.specs.Stability.{IsStable}
use Rattle.srp_core.specs.Solutions.{HaveEqualKeys}
use Rattle.srp_questions.specs.declared.question.Question.{Question}
use Rattle.srp_questions.specs.declared.verdict.Verdict.{Verdict}
use Rattle.srp_questions.specs.Answers.{IsVerdict}
use Rattle.srp_questions.specs.Questions.{IsTrueIn}

-- What is true in stable labels is true in all that have the same keys.
abbrev pub KeysDecide : Type 0
KeysDecide = (problem : Problem) (asked : Question) (labels others : List (Option Route)) → IsProblem problem → IsStable problem labels
    → IsStable problem others → HaveEqualKeys problem labels others → IsTrueIn asked problem labels → IsTrueIn asked problem others

-- A question about a problem has one verdict.
abbrev pub VerdictIsOne : Type 0
VerdictIsOne = (problem : Problem) (asked : Question) (first second : Verdict) → IsVerdict problem (IsTrueIn asked problem) first
    → IsVerdict problem (IsTrueIn asked problem) second → first ≡ second
