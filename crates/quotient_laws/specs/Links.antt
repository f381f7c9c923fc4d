-- The links of the groups of a network are no more than its own.
use Rattle.std.specs.Prelude.{◌≤◌, ℕ, List, length}
use Rattle.base_kit.specs.Prefixes.{Prefix}
use Rattle.cfg_ast.specs.declared.network.Network.{Network}
use Rattle.cfg_ast.specs.meaning.Topology.{links_of}
use Rattle.abstract_net.specs.Links.{quotient_links}
use Rattle.srp_core.specs.Problem.{Problem}
use Rattle.srp_core.specs.ProblemOf.{IsProblemOf}

abbrev pub QuotientHasNoMoreLinks : Type 0
QuotientHasNoMoreLinks = (network : Network) (prefix : Prefix) (problem : Problem) (groups : List ℕ) (count : ℕ) → IsProblemOf network prefix problem
    → length (quotient_links problem.edges groups count) ≤ length (links_of network)
