-- How many bytes the text of stable labels has at most: no more than a file with a solution may have.
use Rattle.std.specs.Prelude.{◌≡◌, ◌≤◌, ℕ, true, List, length, Option}
use Rattle.std.specs.List.{AllByRecursion}
use Rattle.base_kit.specs.Prefixes.{Prefix}
use Rattle.cfg_ast.specs.declared.network.Network.{Network}
use Rattle.cfg_ast.specs.text.Reading.{IsGiven}
use Rattle.cfg_ast.specs.text.Words.{is_router_name}
use Rattle.cfg_check.specs.Faultless.{IsFaultless}
use Rattle.solution_text.specs.Printed.{labels_text}
use Rattle.srp_core.specs.declared.route.Route.{Route}
use Rattle.srp_core.specs.Problem.{Problem, IsProblem}
use Rattle.srp_core.specs.ProblemOf.{IsProblemOf}
use Rattle.srp_core.specs.Quotient.{IsQuotient}
use Rattle.srp_core.specs.Stability.{IsStable}

-- 12,379 bytes for each of 4,096 lines without the hops of its path, and 14 for each of 8,388,608 hops:
-- a path has at most one for each smaller label, and of two labels at most one is smaller
abbrev pub most_bytes : ℕ
most_bytes = 168144896

-- The text of every stable solution of the problem of a network that a text gives, and in which no fault stands, has at
-- most so many bytes, which are fewer than a solution may have.
abbrev pub StableTextIsShort : Type 0
StableTextIsShort = (network : Network) → ∥ IsGiven network ∥₁ → IsFaultless network → (prefix : Prefix) (problem : Problem) (labels : List (Option Route))
    → IsProblemOf network prefix problem → IsStable problem labels → length (labels_text problem.names labels) ≤ most_bytes

-- The same holds for every stable solution of the problem of its groups, which have names of routers.
abbrev pub TextOfGroupsIsShort : Type 0
TextOfGroupsIsShort =
    (network : Network) → ∥ IsGiven network ∥₁ → IsFaultless network → (prefix : Prefix) (problem small : Problem) (groups : List ℕ)
    (labels : List (Option Route))
    → IsProblemOf network prefix problem → IsProblem small → IsQuotient problem groups small → AllByRecursion
    (λ (name : List ℕ). is_router_name name ≡ true) small.names
    → IsStable small labels → length (labels_text small.names labels) ≤ most_bytes
