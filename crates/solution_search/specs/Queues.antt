-- The queue of routers that come next.
use Rattle.std.specs.Prelude.{◌≡◌, ℕ, ◌<◌, ◌≤◌, ◌⊎◌, List, Contains, Some, length, slice_index_or}
use Rattle.std.specs.declared.cmp.Reverse.{Reverse}
use Rattle.solution_search.specs.declared.board.Board.{Board}
use Rattle.solution_search.specs.Boards.{State, state_of}
use Rattle.solution_search.specs.Looks.{open_size}

abbrev pub Turns : Type 0
Turns = List (Reverse (ℕ × ℕ))

-- the router is listed with the size
pub record IsListed (turns : Turns) (size router : ℕ) : Type 0 where
  pub turn : Reverse (ℕ × ℕ)
  pub listed : Contains turns turn
  pub size_is : turn.0.0 ≡ size
  pub router_is : turn.0.1 ≡ router

-- each open router is listed with the size of its best offer
pub record IsQueued (state : State) (turns : Turns) : Type 0 where
  pub all : (u size : ℕ) → open_size state u ≡ Some size → IsListed turns size u

-- what is listed stays
pub record KeepsListed (old new : Turns) : Type 0 where
  pub kept : (size router : ℕ) → IsListed old size router → IsListed new size router

-- this turn is the first, and none has a smaller size
pub record IsFirstTurn (turns : Turns) (size router : ℕ) : Type 0 where
  pub inside : 0 < length turns
  pub some : (d : Reverse (ℕ × ℕ)) → ((slice_index_or turns 0 d).0.0 ≡ size) × ((slice_index_or turns 0 d).0.1 ≡ router)
  pub least : (other u : ℕ) → IsListed turns other u → size ≤ other

-- what is listed stays, except for one turn
pub record DropsListed (old new : Turns) (size router : ℕ) : Type 0 where
  pub rest : (other u : ℕ) → IsListed old other u → ((other ≡ size) × (u ≡ router)) ⊎ IsListed new other u

-- if the queue had all open routers of the board before, it has those of the board after
abbrev pub KeepsQueued : Board → Turns → Board → Turns → Type 0
KeepsQueued old turns new others = IsQueued (state_of old) turns → IsQueued (state_of new) others
