-- What is read back of the text that is printed of labels, and which labels are in range.
use Rattle.std.specs.Prelude.{◌≡◌, ℕ, true, List, length, Option, Some, None, Ok}
use Rattle.std.specs.List.{AllByRecursion}
use Rattle.base_kit.specs.declared.protocol.Protocol.{Protocol}
use Rattle.base_kit.specs.Prefixes.{Prefix}
use Rattle.base_kit.specs.Sets.{IsAscending}
use Rattle.cfg_ast.specs.declared.network.Network.{Network}
use Rattle.cfg_ast.specs.text.Reading.{IsGiven}
use Rattle.cfg_ast.specs.text.Words.{is_router_name}
use Rattle.cfg_ast.specs.printing.WellFormed.{IsBetween, IsNumber}
use Rattle.srp_core.specs.declared.route.Route.{Route}
use Rattle.srp_core.specs.declared.route.Route.TheVariants.{Bgp, Ospf}
use Rattle.srp_core.specs.Problem.{Problem, IsProblem}
use Rattle.srp_core.specs.ProblemOf.{IsProblemOf}
use Rattle.srp_core.specs.Quotient.{IsQuotient}
use Rattle.srp_core.specs.Routes.{IsRouteOf}
use Rattle.srp_core.specs.Stability.{IsStable}
use Rattle.solution_text.specs.Printed.{labels_text}
use Rattle.solution_text.specs.Solutions.{labels_of_text}
use Rattle.base_kit.specs.Names.{AreApart}

-- a preference, the AS numbers of a path and communities that can be written
pub record IsBgpInRange (lp : ℕ) (path comms : List ℕ) : Type 0 where
  pub preference : IsNumber lp
  pub numbers : AllByRecursion (IsBetween 1 4294967295) path
  pub communities : AllByRecursion (IsBetween 1 4294901759) comms
  pub is_set : IsAscending comms

abbrev pub IsInRange : Route → Type 0
IsInRange (Bgp lp path comms) = IsBgpInRange lp path comms
IsInRange (Ospf cost) = IsNumber cost

-- a route of the protocol in range, or none
abbrev pub IsLabelInRange : Protocol → Option Route → Type 0
IsLabelInRange protocol None = Unit {0}
IsLabelInRange protocol (Some route) = IsRouteOf protocol route × IsInRange route

-- names of routers, no two of which are equal
pub record AreNames (names : List (List ℕ)) : Type 0 where
  pub each : AllByRecursion (λ (name : List ℕ). is_router_name name ≡ true) names
  pub apart : AreApart names

-- The text of labels of the protocol in range, one for each name, gives these labels.
abbrev pub PrintedSolutionIsReadBack : Type 0
PrintedSolutionIsReadBack = (protocol : Protocol) (names : List (List ℕ)) (labels : List (Option Route)) → AreNames names → length labels ≡ length names →
    AllByRecursion (IsLabelInRange protocol) labels
    → labels_of_text protocol names (labels_text names labels) ≡ Ok labels

-- The labels of every stable solution of the problem of a network that a text gives are in range.
abbrev pub StableIsInRange : Type 0
StableIsInRange = (network : Network) → ∥ IsGiven network ∥₁ → (prefix : Prefix) (problem : Problem) (labels : List (Option Route)) →
    IsProblemOf network prefix problem → IsStable problem labels
    → AllByRecursion (IsLabelInRange problem.protocol) labels

-- So are those of every stable solution of the problem of its groups.
abbrev pub StableOfGroupsIsInRange : Type 0
StableOfGroupsIsInRange = (network : Network) → ∥ IsGiven network ∥₁ →
    (prefix : Prefix) (problem small : Problem) (groups : List ℕ) (labels : List (Option Route)) → IsProblemOf network prefix problem
    → IsProblem small → IsQuotient problem groups small → IsStable small labels → AllByRecursion (IsLabelInRange small.protocol) labels
