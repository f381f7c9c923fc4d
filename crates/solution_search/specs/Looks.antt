-- Which routers are open.
use Rattle.std.specs.Prelude.{◌≡◌, ℕ, ◌<◌, ◌≤◌, Bool, true, false, ◌&&◌, is_some, is_none, nat_lt, if◌then◌else◌, Option, Some, None, slice_index_or}
use Rattle.srp_core.specs.declared.route.Route.{Route}
use Rattle.srp_core.specs.Routes.{preference_of, size_of}
use Rattle.srp_core.specs.Stability.{label}
use Rattle.solution_search.specs.declared.bests.Best.{Best}
use Rattle.solution_search.specs.Boards.{State, best_at}

abbrev pub is_above : Option ℕ → ℕ → Bool
is_above None preference = true
is_above (Some awaited) preference = nat_lt awaited preference

-- the size of the best offer, if the router is open
abbrev pub open_size_by : Option Route → Option ℕ → Option Best → Option ℕ
open_size_by (Some label) awaited known = None
open_size_by None awaited None = None
open_size_by None awaited (Some best) = if is_above awaited (preference_of best.route) then Some (size_of best.route) else None

unfoldable pub open_size : State → ℕ → Option ℕ
open_size state router = open_size_by (label state.labels router) (slice_index_or state.waits router None) (best_at state.bests router)

-- none of the first so many routers is open
pub record IsClosed (state : State) (upto : ℕ) : Type 0 where
  pub closed : (u : ℕ) → u < upto → open_size state u ≡ None

-- one of so many routers is open, and its best offer has that size
pub record IsTurn (state : State) (routers size router : ℕ) : Type 0 where
  pub inside : router < routers
  pub sized : open_size state router ≡ Some size

-- of so many routers this one is open, and none is open with a smaller offer
pub record IsLeast (state : State) (routers router : ℕ) : Type 0 where
  pub size : ℕ
  pub turn : IsTurn state routers size router
  pub least : (u size' : ℕ) → u < routers → open_size state u ≡ Some size' → size ≤ size'

abbrev pub is_offered : State → ℕ → Bool
is_offered state router = is_none (label state.labels router) && is_some (best_at state.bests router)

-- a router has an offer and no label
pub record HasOffered (state : State) (routers : ℕ) : Type 0 where
  pub router : ℕ
  pub inside : router < routers
  pub offered : is_offered state router ≡ true

-- none of the first so many routers has an offer and no label
pub record HasNoneOffered (state : State) (upto : ℕ) : Type 0 where
  pub none : (u : ℕ) → u < upto → is_offered state u ≡ false
