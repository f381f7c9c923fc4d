-- Links that are spare, and what is left without one.
use Rattle.std.specs.Prelude.{◌≡◌, ◌≢◌, ℕ, ◌<◌, Bool, true, false, List, [], ◌∷◌, Option, None, IfSome, Contains, slice_index_or}
use Rattle.base_kit.specs.declared.act_graph.Edge.{Edge}
use Rattle.asking_laws.specs.Spare.{LosesSpareLinks, HasNoTie}
use Rattle.question_laws.specs.Kept.{IsOfLabels}
use Rattle.srp_core.specs.declared.route.Route.{Route}
use Rattle.srp_core.specs.Problem.{Problem, count}
use Rattle.srp_core.specs.Solutions.{AreAllSolutions, HoldsHoweverTiesBreak}
use Rattle.srp_core.specs.Without.{Down, nothing_down, with_link_down, IsWithout}
use Rattle.srp_questions.specs.declared.question.Question.{Question}
use Rattle.srp_questions.specs.declared.verdict.Verdict.{Verdict}
use Rattle.srp_questions.specs.declared.verdict.Verdict.TheVariants.{Yes, No, NoSolution}
use Rattle.srp_questions.specs.Answers.{IsVerdict}
use Rattle.srp_questions.specs.Questions.{IsTrueIn, IsAskedOf}
use Rattle.spare_links.specs.declared.standing.Standing.TheVariants.{Tied}
use Rattle.spare_links.specs.Standing.{standing_over}

-- this link alone is down
abbrev pub link_down : ℕ → Down
link_down link = with_link_down link nothing_down

-- over an edge of another link a route ties with the label of its router, by other communities
pub record TiesBeside (problem : Problem) (labels : List (Option Route)) (link : ℕ) : Type 0 where
  pub edge : Edge
  pub edge_in : Contains problem.edges edge
  pub other : edge.link ≢ link
  pub tied : standing_over problem labels edge ≡ Tied

-- Each marked link is spare. No routes tie under the labels, or a router is known at which they do; then they tie
-- beside each marked link.
pub record AreSpare (problem : Problem) (labels : List (Option Route)) (marks : List Bool) (tied : Option ℕ) : Type 0 where
  pub spare : (link : ℕ) → slice_index_or marks link false ≡ true → LosesSpareLinks problem (link_down link) labels
  pub untied : tied ≡ None → HasNoTie problem labels
  pub router : IfSome tied (λ u. u < count problem)
  pub beside : tied ≢ None → (link : ℕ) → slice_index_or marks link false ≡ true → TiesBeside problem labels link

-- the verdicts that a question keeps: a no about chains of forwarding may become yes
abbrev pub IsVerdictKept : Question → Verdict → Type 0
IsVerdictKept asked Yes = Unit {0}
IsVerdictKept asked No = IsOfLabels asked
IsVerdictKept asked NoSolution = ⊥

-- a problem is left without the link, with this verdict on the question, and it has one solution; where no routes tied,
-- routers come to it however ties are broken
pub record StaysSo (problem : Problem) (link : ℕ) (asked : Question) (verdict : Verdict) (tied : Option ℕ) : Type 0 where
  pub other : Problem
  pub without : IsWithout problem (link_down link) other
  pub is : IsVerdict other (IsTrueIn asked other) verdict
  pub solution : List (Option Route)
  pub all : AreAllSolutions other (solution ∷ [])
  pub holds : tied ≡ None → HoldsHoweverTiesBreak other (solution ∷ [])

-- Without a link that is spare a verdict stays that is kept.
abbrev pub SpareLinksKeepVerdicts : Type 0
SpareLinksKeepVerdicts = (problem : Problem) (labels : List (Option Route)) (marks : List Bool) (tied : Option ℕ) (link : ℕ) (asked : Question) (verdict : Verdict)
    → AreSpare problem labels marks tied → slice_index_or marks link false ≡ true → IsAskedOf problem asked → IsVerdictKept asked verdict
    → IsVerdict problem (IsTrueIn asked problem) verdict → StaysSo problem link asked verdict tied
