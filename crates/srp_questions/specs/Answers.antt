-- The answer to a question about a problem: what is true in all of its stable labels.
use Rattle.std.specs.Prelude.{List, Option}
use Rattle.srp_core.specs.declared.route.Route.{Route}
use Rattle.srp_core.specs.Problem.{Problem}
use Rattle.srp_core.specs.Stability.{IsStable}
use Rattle.srp_questions.specs.declared.verdict.Verdict.{Verdict}
use Rattle.srp_questions.specs.declared.verdict.Verdict.TheVariants.{Yes, No, NoSolution}

-- some labels are stable, and what is asked is true in all that are
pub record HoldsInAll (problem : Problem) (asks : List (Option Route) → Type 0) : Type 0 where
  pub some : List (Option Route)
  pub stable : IsStable problem some
  pub all : (labels : List (Option Route)) → IsStable problem labels → asks labels

-- it is false in some stable labels
pub record FailsInSome (problem : Problem) (asks : List (Option Route) → Type 0) : Type 0 where
  pub labels : List (Option Route)
  pub stable : IsStable problem labels
  pub fails : ¬ asks labels

-- no labels are stable
abbrev pub HasNoSolution : Problem → Type 0
HasNoSolution problem = (labels : List (Option Route)) → ¬ IsStable problem labels

abbrev pub IsVerdict : Problem → (List (Option Route) → Type 0) → Verdict → Type 0
IsVerdict problem asks Yes = HoldsInAll problem asks
IsVerdict problem asks No = FailsInSome problem asks
IsVerdict problem asks NoSolution = HasNoSolution problem
