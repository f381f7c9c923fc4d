-- What is true of labels: questions that are asked of some routers.
use Rattle.std.specs.Prelude.{◌≡◌, ◌≢◌, ℕ, ◌<◌, ◌≤◌, All, Contains, List, [], Option, Some, None}
use Rattle.srp_core.specs.declared.route.Route.{Route}
use Rattle.srp_core.specs.Problem.{Problem, count}
use Rattle.srp_core.specs.Routes.{comms_of}
use Rattle.srp_core.specs.Stability.{label}
use Rattle.srp_questions.specs.declared.question.Question.{Question}
use Rattle.srp_questions.specs.declared.question.Question.TheVariants as question
use Rattle.srp_questions.specs.Chains.{IsChain, hops_of, EndsAtOrigin, Meets}

-- ---- what is asked of one router

-- no chain that begins at the router has more hops
abbrev pub IsWithinHops : Problem → List (Option Route) → ℕ → ℕ → Type 0
IsWithinHops problem labels most router = (behind : List ℕ) → IsChain problem labels router behind → hops_of behind ≤ most

-- each chain that begins at the router and is connected to the prefix has one of these routers
abbrev pub PassesThrough : Problem → List (Option Route) → List ℕ → ℕ → Type 0
PassesThrough problem labels way router = (behind : List ℕ) → IsChain problem labels router behind → EndsAtOrigin problem router behind → Meets way router behind

-- no chain that begins at the router has one of these routers
abbrev pub StaysOff : Problem → List (Option Route) → List ℕ → ℕ → Type 0
StaysOff problem labels way router = (behind : List ℕ) → IsChain problem labels router behind → ¬ Meets way router behind

-- the label of the router, if it has one, holds the community; the labels of OSPF hold none
abbrev pub HoldsCommunity : List (Option Route) → ℕ → ℕ → Type 0
HoldsCommunity labels community router = (route : Route) → label labels router ≡ Some route → Contains (comms_of route) community

-- it does not
abbrev pub LacksCommunity : List (Option Route) → ℕ → ℕ → Type 0
LacksCommunity labels community router = (route : Route) → label labels router ≡ Some route → ¬ Contains (comms_of route) community

-- ---- what is asked of all routers of a question

abbrev pub IsTrueIn : Question → Problem → List (Option Route) → Type 0
IsTrueIn (question.Route routers) problem labels = All (λ router. label labels router ≢ None) routers
IsTrueIn (question.Isolated routers) problem labels = All (λ router. label labels router ≡ None) routers
IsTrueIn (question.Hops most routers) problem labels = All (IsWithinHops problem labels most) routers
IsTrueIn (question.Through way routers) problem labels = All (PassesThrough problem labels way) routers
IsTrueIn (question.Avoids way routers) problem labels = All (StaysOff problem labels way) routers
IsTrueIn (question.Carries community routers) problem labels = All (HoldsCommunity labels community) routers
IsTrueIn (question.Lacks community routers) problem labels = All (LacksCommunity labels community) routers

-- ---- the routers that a question names

-- those of which something is asked
abbrev pub asked_of : Question → List ℕ
asked_of (question.Route routers) = routers
asked_of (question.Isolated routers) = routers
asked_of (question.Hops most routers) = routers
asked_of (question.Through way routers) = routers
asked_of (question.Avoids way routers) = routers
asked_of (question.Carries community routers) = routers
asked_of (question.Lacks community routers) = routers

-- those that chains pass, or stay off
abbrev pub way_of : Question → List ℕ
way_of (question.Route routers) = []
way_of (question.Isolated routers) = []
way_of (question.Hops most routers) = []
way_of (question.Through way routers) = way
way_of (question.Avoids way routers) = way
way_of (question.Carries community routers) = []
way_of (question.Lacks community routers) = []

-- both are routers of the problem
pub record IsAskedOf (problem : Problem) (asked : Question) : Type 0 where
  pub routers : All (λ router. router < count problem) (asked_of asked)
  pub way : All (λ router. router < count problem) (way_of asked)
