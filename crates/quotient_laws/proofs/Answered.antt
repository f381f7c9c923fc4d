-- A question that holds of labels exactly if it holds of the labels that correspond has one answer in a
-- problem and in its quotient.
use Rattle.std.proofs.Common.{ℕ, List, Option}
use Rattle.srp_core.specs.declared.route.Route.{Route}
use Rattle.srp_core.specs.Problem.{Problem, IsProblem}
use Rattle.srp_core.specs.Stability.{IsStable}
use Rattle.srp_core.specs.Quotient.{group_of, IsAdmissible, IsQuotient, Corresponds}
use Rattle.srp_core.specs.Laws.{Below, Above}
use Rattle.quotient_laws.specs.Questions.{itself, HasOneAnswer, IsQuotiented, Question}

abbrev pub Down : Type 0
Down = (problem small : Problem) (groups : List ℕ) (labels : List (Option Route)) → IsProblem problem → IsProblem small
    → IsAdmissible problem groups → IsQuotient problem groups small → IsStable problem labels → Below problem small groups labels

abbrev pub Up : Type 0
Up = (problem small : Problem) (groups : List ℕ) (lower : List (Option Route)) → IsProblem problem → IsProblem small
    → IsAdmissible problem groups → IsQuotient problem groups small → IsStable small lower → Above problem small groups lower

-- what is asked holds of the labels of the routers exactly if it holds of those of the groups
pub record AnswersAlike (problem small : Problem) (groups : List ℕ) (asks : Question) (labels lower : List (Option Route)) : Type 0 where
  pub below : asks problem (group_of groups) labels → asks small itself lower
  pub above : asks small itself lower → asks problem (group_of groups) labels

module _ (down : Down) (up : Up) (P Q : Problem) (groups : List ℕ) (q : IsQuotiented P Q groups) (asks : Question)
    (alike : (labels lower : List (Option Route)) → Corresponds P Q groups labels lower → AnswersAlike P Q groups asks labels lower) where
  pub carries : HasOneAnswer P Q groups asks
  carries = record {
    every_below = λ each lower stable. (
        let a = up P Q groups lower q.rules q.small_rules q.admissible q.quotient stable in
        (alike a.labels lower a.correspond).below (each a.labels a.stable));
    every_above = λ each labels stable. (
        let b = down P Q groups labels q.rules q.small_rules q.admissible q.quotient stable in
        (alike labels b.lower b.correspond).above (each b.lower b.stable));
    some_below = λ some. (
        let b = down P Q groups some.labels q.rules q.small_rules q.admissible q.quotient some.stable in
        record { labels = b.lower; stable = b.stable; holds = (alike some.labels b.lower b.correspond).below some.holds });
    some_above = λ some. (
        let a = up P Q groups some.labels q.rules q.small_rules q.admissible q.quotient some.stable in
        record { labels = a.labels; stable = a.stable; holds = (alike a.labels some.labels a.correspond).above some.holds });
  }
