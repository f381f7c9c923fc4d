-- How a look at the board, and a search, may end.
use Rattle.std.specs.Prelude.{◌≡◌, ◌<◌, Bool, false, List, Contains, Option, Some, None}
use Rattle.srp_core.specs.declared.route.Route.{Route}
use Rattle.srp_core.specs.Problem.{Problem, count}
use Rattle.srp_core.specs.Stability.{IsStable}
use Rattle.srp_core.specs.Solutions.{AreAllSolutions, HoldsHoweverTiesBreak}
use Rattle.solution_search.specs.declared.searching.Ending.{Ending}
use Rattle.solution_search.specs.declared.searching.Ending.TheVariants.{All, Stopped}

-- The labels are all solutions, and where no tie was met they hold however ties break; or they are stable,
-- and the visitor, who has seen them, wants no more.
abbrev pub EndsWith : Problem → List (List (Option Route)) → Bool → Ending → Type 0
EndsWith problem found wants (All None) = AreAllSolutions problem found × HoldsHoweverTiesBreak problem found
EndsWith problem found wants (All (Some tie)) = AreAllSolutions problem found × (tie.router < count problem)
EndsWith problem found wants Stopped = ((labels : List (Option Route)) → Contains found labels → IsStable problem labels) × (wants ≡ false)
