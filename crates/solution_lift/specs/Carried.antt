-- What folding and lifting give: labels of the other problem that are stable there and correspond, and
-- which of them.
use Rattle.std.specs.Prelude.{◌≡◌, ℕ, ◌<◌, List, Option}
use Rattle.base_kit.specs.declared.protocol.Protocol.TheVariants.{Bgp as OverBgp, Ospf as OverOspf}
use Rattle.srp_core.specs.declared.route.Route.{Route}
use Rattle.srp_core.specs.Lifts.{IsFold, IsLift}
use Rattle.srp_core.specs.Problem.{Problem, count}
use Rattle.srp_core.specs.Quotient.{group_of, Corresponds}
use Rattle.srp_core.specs.Stability.{label, IsStable}

-- in BGP each group takes its route from the group from whose router its first member took it, and in
-- OSPF each has the cost of its members
pub record IsFolding (problem small : Problem) (groups : List ℕ) (labels lower : List (Option Route)) : Type 0 where
  pub stable : IsStable small lower
  pub corresponds : Corresponds problem small groups labels lower
  pub routes : problem.protocol ≡ OverBgp → IsFold problem small groups labels lower
  pub costs : problem.protocol ≡ OverOspf → (u : ℕ) → u < count problem → label lower (group_of groups u) ≡ label labels u

-- in BGP each router takes its route from the least router that offers one of its group's key in the group
-- that is first on its group's path, and in OSPF each has the cost of its group
pub record IsLifting (problem small : Problem) (groups : List ℕ) (lower labels : List (Option Route)) : Type 0 where
  pub stable : IsStable problem labels
  pub corresponds : Corresponds problem small groups labels lower
  pub routes : problem.protocol ≡ OverBgp → IsLift problem small groups lower labels
  pub costs : problem.protocol ≡ OverOspf → (u : ℕ) → u < count problem → label labels u ≡ label lower (group_of groups u)
