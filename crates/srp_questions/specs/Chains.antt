-- Chains of forwarding under labels: routers each of which forwards to the next (Beckett, Gupta, Mahajan
-- and Walker, Control Plane Compression, SIGCOMM 2018, section 3, for forwarding).
use Rattle.std.specs.Prelude.{◌≢◌, ℕ, List, [], ◌∷◌, length, Option, None, Contains}
use Rattle.srp_core.specs.declared.route.Route.{Route}
use Rattle.srp_core.specs.Problem.{Problem, initial}
use Rattle.srp_core.specs.Stability.{ForwardsTo}

-- A chain: a router, and those behind it, each of which the one before it forwards to. Each router is a
-- chain by itself, also one without a label, and no chain need go on as far as it can.
abbrev pub IsChain : Problem → List (Option Route) → ℕ → List ℕ → Type 0
IsChain problem labels router [] = Unit {0}
IsChain problem labels router (next ∷ behind) = ForwardsTo problem labels router next × IsChain problem labels next behind

-- one hop to each router behind the first
abbrev pub hops_of : List ℕ → ℕ
hops_of behind = length behind

-- the router at which a chain ends
abbrev pub end_of : ℕ → List ℕ → ℕ
end_of router [] = router
end_of router (next ∷ behind) = end_of next behind

-- A chain ends at a router with an initial route, whether or not that router holds it and forwards on:
-- it is connected to the prefix.
abbrev pub EndsAtOrigin : Problem → ℕ → List ℕ → Type 0
EndsAtOrigin problem router behind = initial problem (end_of router behind) ≢ None

-- one of these routers is on the chain, its ends included
pub record Meets (way : List ℕ) (router : ℕ) (behind : List ℕ) : Type 0 where
  pub met : ℕ
  pub wanted : Contains way met
  pub on_chain : Contains (router ∷ behind) met
