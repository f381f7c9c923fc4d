-- What a look at the board does to what has been searched.
use Rattle.std.specs.Prelude.{◌≡◌, ℕ, ◌<◌, ◌^◌, ◌⊎◌, Bool, true, false, All, List, [], ◌∷◌, ◌++◌, Option, Some, None}
use Rattle.srp_core.specs.declared.route.Route.{Route}
use Rattle.srp_core.specs.Routes.{preference_of}
use Rattle.srp_core.specs.Problem.{Problem, count, is_lone}
use Rattle.srp_core.specs.Stability.{IsStable}
use Rattle.solution_search.specs.declared.bests.Best.{Best}
use Rattle.solution_search.specs.declared.board.Board.{Board}
use Rattle.solution_search.specs.declared.board.Change.TheVariants.{Fork}
use Rattle.solution_search.specs.declared.searching.Ending.{Ending}
use Rattle.solution_search.specs.declared.searching.Ending.TheVariants.{All as EndsAll}
use Rattle.solution_search.specs.declared.sweeping.Look.{Look}
use Rattle.solution_search.specs.declared.sweeping.Look.TheVariants.{Settled, Dead, Solved}
use Rattle.solution_search.specs.Ahead.{NothingComes}
use Rattle.solution_search.specs.Boards.{state_of, case_of, is_tied, pending_of, pending_cases, cases_of, Fits, IsState, IsBoard}
use Rattle.solution_search.specs.Cases.{Case, IsSure}
use Rattle.solution_search.specs.Burdens.{burden}
use Rattle.solution_search.specs.Endings.{EndsWith}
use Rattle.solution_search.specs.Search.{IsSearched}

-- the router is not lone, or no edge can give it anything better, or nothing better comes to it but by way
-- of itself
abbrev pub TakesAtOnce : Problem → Case → ℕ → ℕ → Type 0
TakesAtOnce problem case router preference = (is_lone problem router ≡ false)
    ⊎ (IsSure problem case router preference ⊎ ((is_lone problem router ≡ true) × NothingComes problem case (Some router) router))

-- The router takes its offer at once; or a fork is put on the board.
pub record Forks (problem : Problem) (old new : Board) (router : ℕ) (best : Best) : Type 0 where
  pub state : state_of new ≡ state_of old
  pub tie : new.tie ≡ old.tie
  pub fits : Fits (count problem) new
  pub few : preference_of best.route < 2 ^ 32
  pub changes : ((new.changes.items ≡ old.changes.items) × TakesAtOnce problem (case_of (state_of old)) router (preference_of best.route))
      ⊎ (new.changes.items ≡ old.changes.items ++ Fork (record { router = router; preference = preference_of best.route }) ∷ [])

-- what was put off is known
pub record IsPutOff (problem : Problem) (board : Board) : Type 0 where
  pub fits : Fits (count problem) board
  pub pending : All (IsState problem (is_tied board)) (pending_of board)

-- what has been searched
abbrev pub Looked : Problem → List (List (Option Route)) → Board → Look → Type 0
Looked problem found board Settled = IsSearched problem found (cases_of board) (is_tied board)
Looked problem found board Dead = IsSearched problem found (pending_cases board) (is_tied board)
Looked problem found board Solved = IsSearched problem (found ++ board.labels ∷ []) (pending_cases board) (is_tied board)

-- the cases that are left to be followed
abbrev pub left_over : Board → Look → List Case
left_over board Settled = cases_of board
left_over board Dead = pending_cases board
left_over board Solved = pending_cases board

-- the board on which the search goes on, or what was put off; at a solution that it is one
abbrev pub IsLeft : Problem → Board → Look → Type 0
IsLeft problem board Settled = IsBoard problem board
IsLeft problem board Dead = IsPutOff problem board
IsLeft problem board Solved = IsPutOff problem board × IsStable problem board.labels

-- what a look at the board ensures: less is left to be followed, and no solution is lost
pub record SearchSteps (problem : Problem) (old new : Board) (look : Look) : Type 0 where
  pub left : IsLeft problem new look
  pub lighter : burden (left_over new look) < burden (cases_of old)
  pub looked : (found : List (List (Option Route))) → IsSearched problem found (cases_of old) (is_tied old) → Looked problem found new look

-- the look came to something, or all is as it was
abbrev pub StepsTo : Problem → Board → Board → Option Look → Type 0
StepsTo problem old new None = new ≡ old
StepsTo problem old new (Some look) = SearchSteps problem old new look

-- the first case that was put off is followed, or none was put off
abbrev pub GoesBack : Board → Board → Option Ending → Type 0
GoesBack old new None = pending_of old ≡ state_of new ∷ pending_of new
GoesBack old new (Some ending) = (pending_of old ≡ []) × (ending ≡ EndsAll old.tie)

-- what has been searched, or that nothing is left
abbrev pub Turned : Problem → List (List (Option Route)) → Bool → Board → Option Ending → Type 0
Turned problem found wants board None = IsSearched problem found (cases_of board) (is_tied board)
Turned problem found wants board (Some ending) = EndsWith problem found wants ending
