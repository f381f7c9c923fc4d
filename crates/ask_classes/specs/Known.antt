-- Links without which the answer is known: they are spare.
use Rattle.std.specs.Prelude.{◌≡◌, ℕ, ◌<◌, Bool, true, false, List, Option, Some, None, length, slice_index_or, slice_set}
use Rattle.srp_core.specs.declared.route.Route.{Route}
use Rattle.srp_core.specs.Problem.{Problem}
use Rattle.srp_core.specs.Without.{marked_down}
use Rattle.srp_questions.specs.declared.verdict.Verdict.{Verdict}
use Rattle.srp_questions.specs.declared.verdict.Verdict.TheVariants.{Yes, No, NoSolution}
use Rattle.solution_search.specs.declared.bests.Difference.TheVariants.{Communities}
use Rattle.solution_search.specs.declared.board.Tie.{Tie}
use Rattle.spare_links.specs.Spare.{AreSpare}
use Rattle.ask_words.specs.declared.request.AskedOf.{AskedOf}
use Rattle.ask_words.specs.declared.request.AskedOf.TheVariants as asked
use Rattle.ask_classes.specs.declared.asking.Asking.{Asking}
use Rattle.ask_classes.specs.declared.known.Known.{Known}
use Rattle.ask_classes.specs.Failing.{Loss, Trial, IsTried}

-- the marked links are spare under stable labels of the problem, and whether routes tie is known
pub record HasSpareLinks (problem : Problem) (marks : List Bool) (tied : Option ℕ) : Type 0 where
  pub labels : List (Option Route)
  pub are : AreSpare problem labels marks tied

-- the question asks about labels, and not about chains of forwarding
abbrev pub is_of_labels : AskedOf → Bool
is_of_labels (asked.Route of) = true
is_of_labels (asked.Isolated of) = true
is_of_labels (asked.Hops most of) = false
is_of_labels (asked.Through way of) = false
is_of_labels (asked.Avoids way of) = false
is_of_labels (asked.Carries community of) = true
is_of_labels (asked.Lacks community of) = true

-- the verdict stays where links are lost that are spare
abbrev pub keeps_verdict : AskedOf → Verdict → Bool
keeps_verdict asks Yes = true
keeps_verdict asks No = is_of_labels asks
keeps_verdict asks NoSolution = false

-- at that router routes of different communities tie
abbrev pub tie_at : Option ℕ → Option Tie
tie_at None = None
tie_at (Some router) = Some (record { router = router; by = Communities })

-- a no has no tie beside it
abbrev pub tie_beside : Verdict → Option ℕ → Option Tie
tie_beside Yes tied = tie_at tied
tie_beside No tied = None
tie_beside NoSolution tied = tie_at tied

-- the answer that is known
abbrev pub trial_known : Known → Trial
trial_known known = record { verdict = known.verdict; tied = known.tie }

-- without each of the marked links the answer is the one that is known
pub record KnowsTrials (asking : Asking) (known : Known) : Type 0 where
  pub each : (place : ℕ) (loss : Loss) → place < length asking.scene.now.links.now → slice_index_or known.marks.items place false ≡ true →
      loss.down ≡ marked_down asking.scene.now.routers_down.now (slice_set asking.scene.now.links_down.now place true) →
      IsTried asking.problems.now.whole.now asking.asks.now loss (trial_known known)
