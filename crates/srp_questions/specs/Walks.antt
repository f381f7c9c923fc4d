-- What is found by going over the routers in the order of their sizes.
use Rattle.std.specs.Prelude.{◌≡◌, ℕ, ◌+◌, ◌<◌, ◌^◌, ◌≤◌, Bool, true, false, Contains, List, ◌∷◌, fold, length, max, Option, Some, slice_index, slice_index_or}
use Rattle.std.specs.List.Sorted.{IsNonDecreasingBy}
use Rattle.srp_core.specs.declared.route.Route.{Route}
use Rattle.srp_core.specs.Problem.{Problem}
use Rattle.srp_core.specs.Routes.{size_of}
use Rattle.srp_core.specs.Stability.{label}
use Rattle.srp_questions.specs.declared.order.Rank.{Rank}
use Rattle.srp_questions.specs.Chains.{IsChain, hops_of, end_of}

-- ---- the order

abbrev pub rank : ℕ → Route → Rank
rank router route = record { router = router; size = size_of route }

-- each router that has a label, with the size of its label, once or more
pub record AreRanks (labels : List (Option Route)) (ranks : List Rank) : Type 0 where
  pub few : length ranks < 2 ^ 32
  pub each : (found : Rank) → Contains ranks found → (route : Route) × (label labels found.router ≡ Some route) × (found.size ≡ size_of route)
  pub all : (router : ℕ) (route : Route) → label labels router ≡ Some route → Contains ranks (rank router route)

abbrev pub rank_size : Rank → ℕ
rank_size found = found.size

-- they stand by ascending size
pub record AreOrderedRanks (labels : List (Option Route)) (order : List Rank) : Type 0 where
  pub ranks : AreRanks labels order
  pub rising : IsNonDecreasingBy rank_size order

-- ---- the longest chain

-- a chain from the router has so many hops, and none has more
pub record IsLongest (problem : Problem) (labels : List (Option Route)) (router hops : ℕ) : Type 0 where
  pub behind : List ℕ
  pub chain : IsChain problem labels router behind
  pub long : hops_of behind ≡ hops
  pub longest : (others : List ℕ) → IsChain problem labels router others → hops_of others ≤ hops

-- one hop more than the longest of those from these routers
abbrev pub longest_over : List ℕ → List ℕ → ℕ
longest_over lengths next = fold (λ most router. max most (slice_index lengths router + 1)) 0 next

-- ---- chains through allowed routers to a goal

abbrev pub is_marked : List Bool → ℕ → Bool
is_marked marks router = slice_index_or marks router false

-- a chain from the router goes through allowed routers alone and ends at a goal
pub record Reaches (problem : Problem) (labels : List (Option Route)) (allowed goals : List Bool) (router : ℕ) : Type 0 where
  pub behind : List ℕ
  pub chain : IsChain problem labels router behind
  pub through : (v : ℕ) → Contains (router ∷ behind) v → is_marked allowed v ≡ true
  pub ends : is_marked goals (end_of router behind) ≡ true
