-- Answers that are kept where links are down.
use Rattle.std.specs.Prelude.{List, Option}
use Rattle.asking_laws.specs.Spare.{LosesSpareLinks}
use Rattle.srp_core.specs.declared.route.Route.{Route}
use Rattle.srp_core.specs.Problem.{Problem}
use Rattle.srp_core.specs.Without.{Down, IsWithout}
use Rattle.srp_questions.specs.declared.question.Question.{Question}
use Rattle.srp_questions.specs.declared.question.Question.TheVariants as question
use Rattle.srp_questions.specs.declared.verdict.Verdict.TheVariants.{Yes, No, NoSolution}
use Rattle.srp_questions.specs.Answers.{IsVerdict}
use Rattle.srp_questions.specs.Questions.{IsTrueIn, IsAskedOf}

-- the question asks about labels, and not about chains of forwarding
abbrev pub IsOfLabels : Question → Type 0
IsOfLabels (question.Route routers) = Unit {0}
IsOfLabels (question.Isolated routers) = Unit {0}
IsOfLabels (question.Hops most routers) = ⊥
IsOfLabels (question.Through way routers) = ⊥
IsOfLabels (question.Avoids way routers) = ⊥
IsOfLabels (question.Carries community routers) = Unit {0}
IsOfLabels (question.Lacks community routers) = Unit {0}

-- Yes stays yes, and no stays no where labels are asked about; a no about chains may become yes. Both
-- problems have solutions.
pub record KeepsAnswer (problem other : Problem) (asked : Question) : Type 0 where
  pub yes : IsVerdict problem (IsTrueIn asked problem) Yes → IsVerdict other (IsTrueIn asked other) Yes
  pub no : IsOfLabels asked → IsVerdict problem (IsTrueIn asked problem) No → IsVerdict other (IsTrueIn asked other) No
  pub some : ¬ IsVerdict problem (IsTrueIn asked problem) NoSolution
  pub some_left : ¬ IsVerdict other (IsTrueIn asked other) NoSolution

-- Without links that are spare answers are kept.
abbrev pub SpareLinksKeepAnswers : Type 0
SpareLinksKeepAnswers = (problem other : Problem) (down : Down) (labels : List (Option Route)) (asked : Question) → LosesSpareLinks problem down labels
    → IsWithout problem down other → IsAskedOf problem asked → KeepsAnswer problem other asked
