-- What the search knows of a case, and the changes that led to it.
use Rattle.std.specs.Prelude.{◌≡◌, ℕ, ◌<◌, Bool, true, false, if◌then◌else◌, All, List, [], ◌∷◌, ◌++◌, length, map, set, Option, Some, None, is_some, slice_index_or, Contains}
use Rattle.base_kit.specs.declared.act_graph.Edge.{Edge}
use Rattle.refine_partition.specs.declared.imports.Import.{Import}
use Rattle.srp_core.specs.declared.route.Route.{Route}
use Rattle.srp_core.specs.Candidates.{over}
use Rattle.srp_core.specs.Problem.{Problem, count}
use Rattle.srp_core.specs.Stability.{label, AreLabels, IsCandidate}
use Rattle.solution_search.specs.declared.bests.Best.{Best}
use Rattle.solution_search.specs.declared.bests.Difference.{Difference}
use Rattle.solution_search.specs.declared.bests.Rank.{Rank}
use Rattle.solution_search.specs.declared.bests.Rank.TheVariants as rank
use Rattle.solution_search.specs.declared.board.Board.{Board}
use Rattle.solution_search.specs.declared.board.Change.{Change}
use Rattle.solution_search.specs.declared.board.Change.TheVariants.{Settled, Waits, Offered, Fork}
use Rattle.solution_search.specs.declared.board.Tie.{Tie}
use Rattle.solution_search.specs.declared.board.Wait.{Wait}
use Rattle.solution_search.specs.declared.settling.Outcome.{Outcome}
use Rattle.solution_search.specs.declared.settling.Outcome.TheVariants as outcome
use Rattle.solution_search.specs.Bests.{KnowsBest, HoldsBest, fresh_of, rank_of, told, replaced}
use Rattle.solution_search.specs.Cases.{Case}

-- ---- the state of a board

-- labels, the preferences that routers wait for, and best offers of those without a label, by router
pub record State : Type 0 where
  pub labels : List (Option Route)
  pub waits : List (Option ℕ)
  pub bests : List (Option Best)

abbrev pub state_of : Board → State
state_of board = record { labels = board.labels; waits = board.waits.items; bests = board.bests.items }

abbrev pub best_at : List (Option Best) → ℕ → Option Best
best_at bests router = slice_index_or bests router None

abbrev pub case_of : State → Case
case_of state = record { labels = state.labels; waits = state.waits }

abbrev pub is_tied : Board → Bool
is_tied board = is_some board.tie

-- ---- undoing changes

-- the offer that became a label
abbrev pub offer_back : Option Route → List ℕ → Option Difference → Option Best
offer_back None lone tied = None
offer_back (Some route) lone tied = Some (record { route = route; lone = lone; tied = tied })

abbrev pub undo : Change → State → State
undo (Settled router lone tied) state = record {
  labels = set state.labels router None;
  waits = state.waits;
  bests = set state.bests router (offer_back (label state.labels router) lone tied);
}
undo (Waits router before) state = record { labels = state.labels; waits = set state.waits router before; bests = state.bests }
undo (Offered router before) state = record { labels = state.labels; waits = state.waits; bests = set state.bests router before }
undo (Fork wait) state = state

-- the last change is undone first
abbrev pub undo_all : List Change → State → State
undo_all [] state = state
undo_all (change ∷ changes) state = undo change (undo_all changes state)

-- the router waits
abbrev pub waits_for : Wait → State → State
waits_for wait state = record { labels = state.labels; waits = set state.waits wait.router (Some wait.preference); bests = state.bests }

-- what is put off at a change, in the state before it
abbrev pub put_off : Change → State → List State
put_off (Settled router lone tied) state = []
put_off (Waits router before) state = []
put_off (Offered router before) state = []
put_off (Fork wait) state = waits_for wait state ∷ []

abbrev pub is_fork : Change → Bool
is_fork (Settled router lone tied) = false
is_fork (Waits router before) = false
is_fork (Offered router before) = false
is_fork (Fork wait) = true

-- what was put off at some changes that led to the state, the last first
abbrev pub pending : List Change → State → List State
pending [] state = []
pending (change ∷ changes) state = pending changes state ++ put_off change (undo_all changes state)

abbrev pub pending_of : Board → List State
pending_of board = pending board.changes.items (state_of board)

-- the cases that are still to be followed
abbrev pub pending_cases : Board → List Case
pending_cases board = map case_of (pending_of board)

abbrev pub cases_of : Board → List Case
cases_of board = case_of (state_of board) ∷ pending_cases board

-- the board went on without a fork, and may go back
pub record GoesOn (old new : Board) : Type 0 where
  pub added : List Change
  pub changes : new.changes.items ≡ old.changes.items ++ added
  pub back : undo_all added (state_of new) ≡ state_of old
  pub no_fork : pending added (state_of new) ≡ []

-- the change is that of one of so many routers
abbrev pub IsWithin : ℕ → Change → Type 0
IsWithin routers (Settled router lone tied) = router < routers
IsWithin routers (Waits router before) = router < routers
IsWithin routers (Offered router before) = router < routers
IsWithin routers (Fork wait) = wait.router < routers

-- the tie is that of one of so many routers
abbrev pub IsTieWithin : ℕ → Option Tie → Type 0
IsTieWithin routers None = Unit {0}
IsTieWithin routers (Some tie) = tie.router < routers

-- one label, one preference and one best offer for each of so many routers
pub record Fits (routers : ℕ) (board : Board) : Type 0 where
  pub labels : length board.labels ≡ routers
  pub waits : length board.waits.items ≡ routers
  pub bests : length board.bests.items ≡ routers
  pub changes : All (IsWithin routers) board.changes.items
  pub tie : IsTieWithin routers board.tie

-- ---- a further offer

-- a best offer is put in the place of the router's own, or none is
abbrev pub Puts : Board → Board → ℕ → Option Best → Type 0
Puts old new router None = (new.bests.items ≡ old.bests.items) × (new.changes.items ≡ old.changes.items)
Puts old new router (Some best) = (new.bests.items ≡ set old.bests.items router (Some best))
    × (new.changes.items ≡ old.changes.items ++ Offered router (best_at old.bests.items router) ∷ [])

-- what is put where the router has a label or none, and an offer or none
abbrev pub better_than : Option Route → Option Best → Best → Option Best
better_than (Some label) known offer = None
better_than None None offer = Some offer
better_than None (Some best) offer = replaced (rank_of offer best) best offer

-- how the offer compares with the label of a settled router
abbrev pub rank_at : Problem → Option Route → Best → Rank
rank_at problem None offer = rank.Equal
rank_at problem (Some label) offer = rank_of offer (fresh_of problem label)

abbrev pub outcome_of : Rank → Outcome
outcome_of rank.Better = outcome.Upset
outcome_of (rank.TiedBetter by) = outcome.Upset
outcome_of (rank.TiedWorse by) = outcome.Fine
outcome_of rank.Equal = outcome.Fine
outcome_of rank.Worse = outcome.Fine

abbrev pub difference_of : Option Tie → Option Difference
difference_of None = None
difference_of (Some tie) = Some tie.by

abbrev pub noted_tie : Option Tie → ℕ → Difference → Option Tie
noted_tie tie router by = if told (difference_of tie) by then tie else Some (record { router = router; by = by })

abbrev pub noted_by : Option Tie → ℕ → Rank → Option Tie
noted_by tie router rank.Better = tie
noted_by tie router (rank.TiedBetter by) = noted_tie tie router by
noted_by tie router (rank.TiedWorse by) = noted_tie tie router by
noted_by tie router rank.Equal = tie
noted_by tie router rank.Worse = tie

-- all but the best offers and the changes is as it was
pub record SameButBests (old new : Board) : Type 0 where
  pub labels : new.labels ≡ old.labels
  pub waits : new.waits.items ≡ old.waits.items
  pub tie : new.tie ≡ old.tie

-- all but what routers wait for and the changes is as it was
pub record SameButWaits (old new : Board) : Type 0 where
  pub labels : new.labels ≡ old.labels
  pub bests : new.bests.items ≡ old.bests.items
  pub tie : new.tie ≡ old.tie

-- what comes of a further offer
pub record Adds (problem : Problem) (old new : Board) (router : ℕ) (offer : Best) (outcome : Outcome) : Type 0 where
  pub labels : new.labels ≡ old.labels
  pub waits : new.waits.items ≡ old.waits.items
  pub put : Puts old new router (better_than (label old.labels router) (best_at old.bests.items router) offer)
  pub tie : new.tie ≡ noted_by old.tie router (rank_at problem (label old.labels router) offer)
  pub is_outcome : outcome ≡ outcome_of (rank_at problem (label old.labels router) offer)

-- ---- what a board knows

-- of each router without a label the best of the routes that are met, and of each other one that its
-- label is the best
pub record Knows (problem : Problem) (tied : Bool) (IsMet : ℕ → Route → Type 0) (state : State) : Type 0 where
  pub fitting : AreLabels problem state.labels
  pub waits : length state.waits ≡ count problem
  pub bests : length state.bests ≡ count problem
  pub unsettled : (u : ℕ) → u < count problem → label state.labels u ≡ None → KnowsBest problem (IsMet u) (best_at state.bests u)
  pub settled : (u : ℕ) (r : Route) → label state.labels u ≡ Some r → HoldsBest problem tied (IsMet u) r

-- the best candidates are known
pub record IsState (problem : Problem) (tied : Bool) (state : State) : Type 0 where
  pub knows : Knows problem tied (IsCandidate problem state.labels) state

-- an edge of that exporter
abbrev pub edge_of : ℕ → Import → Edge
edge_of exporter i = record { importer = i.importer; exporter = exporter; act = i.act; link = 0 }

-- a candidate by the labels before, or one that one of the edges done gives
pub data IsMetBy (problem : Problem) (before after : List (Option Route)) (exporter : ℕ) (done : List Import) (router : ℕ) (route : Route) : Type 0 where
  met_before : IsCandidate problem before router route → IsMetBy problem before after exporter done router route
  met_over : (i : Import) → Contains done i → i.importer ≡ router → over problem after (edge_of exporter i) ≡ Some route →
      IsMetBy problem before after exporter done router route

-- the state after the exporter took its label and some of its edges were done
pub record IsPart (problem : Problem) (tied : Bool) (before : List (Option Route)) (exporter : ℕ) (done : List Import) (state : State) : Type 0 where
  pub unsettled : label before exporter ≡ None
  pub route : Route
  pub taken : state.labels ≡ set before exporter (Some route)
  pub knows : Knows problem tied (IsMetBy problem before state.labels exporter done) state

-- a whole board
pub record IsBoard (problem : Problem) (board : Board) : Type 0 where
  pub fits : Fits (count problem) board
  pub state : IsState problem (is_tied board) (state_of board)
  pub pending : All (IsState problem (is_tied board)) (pending_of board)

-- ---- taking an offer

abbrev pub noted_at_take : Option Tie → ℕ → Option Difference → Option Tie
noted_at_take tie router None = tie
noted_at_take tie router (Some by) = noted_tie tie router by

-- the router takes its best offer
pub record Takes (old new : Board) (router : ℕ) (best : Best) : Type 0 where
  pub labels : new.labels ≡ set old.labels router (Some best.route)
  pub waits : new.waits.items ≡ old.waits.items
  pub bests : new.bests.items ≡ set old.bests.items router None
  pub changes : new.changes.items ≡ old.changes.items ++ Settled router best.lone best.tied ∷ []
  pub tie : new.tie ≡ noted_at_take old.tie router best.tied
