-- What two networks share if they are the same except for line numbers.
use Rattle.std.specs.Prelude.{◌≡◌, ◌≤◌, [], length}
use Rattle.base_kit.specs.Prefixes.{Prefix}
use Rattle.cfg_ast.specs.declared.network.Network.{Network}
use Rattle.cfg_ast.specs.meaning.PolicyFaults.{communities_of, too_many_communities_lines}
use Rattle.cfg_ast.specs.meaning.RouterFaults.{protocol_of}
use Rattle.cfg_ast.specs.meaning.Topology.{links_of}
use Rattle.cfg_ast.specs.printing.Bare.{bare}
use Rattle.cfg_check.specs.Faultless.{IsFaultless}
use Rattle.srp_core.specs.Problem.{Problem}
use Rattle.srp_core.specs.ProblemOf.{IsProblemOf}

-- Their links are the same.
abbrev pub LinksAside : Type 0
LinksAside = (m n : Network) → bare m ≡ bare n → links_of m ≡ links_of n

-- A problem of one is a problem of the other, if both have one protocol.
abbrev pub ProblemAside : Type 0
ProblemAside = (m n : Network) (p : Prefix) (problem : Problem) → bare m ≡ bare n → protocol_of m ≡ protocol_of n → IsProblemOf n p problem →
    IsProblemOf m p problem

-- If one has no fault of meaning, the other has none.
abbrev pub FaultsAside : Type 0
FaultsAside = (m n : Network) → bare m ≡ bare n → IsFaultless n → IsFaultless m

-- If a network names few communities, none is one too many, whatever the line numbers are.
abbrev pub FewCommunitiesPass : Type 0
FewCommunitiesPass = (n : Network) → length (communities_of n) ≤ 1024 → too_many_communities_lines n ≡ []

-- If one has no fault of meaning, both have one protocol.
abbrev pub ProtocolAside : Type 0
ProtocolAside = (m n : Network) → bare m ≡ bare n → IsFaultless n → protocol_of m ≡ protocol_of n
