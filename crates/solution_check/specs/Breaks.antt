-- How a router breaks the stability of labels (Beckett, Gupta, Mahajan and Walker, Control Plane
-- Compression, SIGCOMM 2018, section 3), and the first router that does.
use Rattle.std.specs.Prelude.{◌≡◌, ◌≢◌, ℕ, ◌<◌, List, Option, Some, None}
use Rattle.std.specs.declared.cmp.Ordering.TheVariants.{Less}
use Rattle.base_kit.specs.declared.protocol.Protocol.TheVariants.{Bgp as OverBgp}
use Rattle.srp_core.specs.declared.route.Route.{Route}
use Rattle.srp_core.specs.Routes.{compare_keys}
use Rattle.srp_core.specs.Problem.{Problem, count, initial, key_of}
use Rattle.srp_core.specs.Stability.{label, IsCandidate, IsStable}
use Rattle.solution_check.specs.declared.judgement.Answer.{Answer}
use Rattle.solution_check.specs.declared.judgement.Answer.TheVariants.{Stable, Not}

-- a BGP originator does not have its initial route
pub record HasWrongOrigin (problem : Problem) (labels : List (Option Route)) (router : ℕ) : Type 0 where
  pub protocol : problem.protocol ≡ OverBgp
  pub route : Route
  pub starts : initial problem router ≡ Some route
  pub other : label labels router ≢ Some route

-- the label is none of the router's candidates
pub record HasNoCandidate (problem : Problem) (labels : List (Option Route)) (router : ℕ) : Type 0 where
  pub route : Route
  pub labelled : label labels router ≡ Some route
  pub other : ¬ IsCandidate problem labels router route

-- a candidate beats the label
pub record HasBetterCandidate (problem : Problem) (labels : List (Option Route)) (router : ℕ) : Type 0 where
  pub route : Route
  pub labelled : label labels router ≡ Some route
  pub candidate : Route
  pub is_candidate : IsCandidate problem labels router candidate
  pub beats : compare_keys (key_of problem candidate) (key_of problem route) ≡ Less

-- there is no label, and a candidate
pub record LacksLabel (problem : Problem) (labels : List (Option Route)) (router : ℕ) : Type 0 where
  pub none : label labels router ≡ None
  pub candidate : Route
  pub is_candidate : IsCandidate problem labels router candidate

-- the first reason that fits, by its number
pub data BreaksBy (problem : Problem) (labels : List (Option Route)) (router : ℕ) : ℕ → Type 0 where
  wrong_origin : HasWrongOrigin problem labels router → BreaksBy problem labels router 1
  not_a_candidate : ¬ HasWrongOrigin problem labels router → HasNoCandidate problem labels router → BreaksBy problem labels router 2
  better_candidate : ¬ HasWrongOrigin problem labels router → ¬ HasNoCandidate problem labels router → HasBetterCandidate problem labels router →
      BreaksBy problem labels router 3
  none_with_candidate : ¬ HasWrongOrigin problem labels router → LacksLabel problem labels router → BreaksBy problem labels router 4

-- a router without a candidate has no label, and each other holds a candidate that none beats
pub record HoldsBest (problem : Problem) (labels : List (Option Route)) (router : ℕ) : Type 0 where
  pub none : (c : Route) → label labels router ≡ None → ¬ IsCandidate problem labels router c
  pub held : (r : Route) → label labels router ≡ Some r → IsCandidate problem labels router r
  pub best : (r c : Route) → label labels router ≡ Some r → IsCandidate problem labels router c → compare_keys (key_of problem c) (key_of problem r) ≢ Less

-- the first router that breaks stability, and why
pub record IsFirstBreak (problem : Problem) (labels : List (Option Route)) (router why : ℕ) : Type 0 where
  pub inside : router < count problem
  pub before : (v : ℕ) → v < router → HoldsBest problem labels v
  pub breaks : BreaksBy problem labels router why

-- labels are stable, or the answer names the first router that breaks it
abbrev pub Judges : Problem → List (Option Route) → Answer → Type 0
Judges problem labels Stable = IsStable problem labels
Judges problem labels (Not router why) = IsFirstBreak problem labels router why
