-- What follows if a network has no fault.
use Rattle.std.specs.Prelude.{◌≡◌, ◌≤◌, length, Ok}
use Rattle.cfg_ast.specs.declared.network.Network.{Network}
use Rattle.cfg_ast.specs.meaning.Meaning.{judged}
use Rattle.cfg_ast.specs.meaning.PolicyFaults.{communities_of}
use Rattle.cfg_check.specs.Faultless.{IsFaultless}

-- A network without faults is accepted.
abbrev pub FaultlessIsAccepted : Type 0
FaultlessIsAccepted = (n : Network) → IsFaultless n → judged n ≡ Ok n

-- Its lines name at most 1,024 communities, whatever their numbers are.
abbrev pub FewCommunities : Type 0
FewCommunities = (n : Network) → IsFaultless n → length (communities_of n) ≤ 1024
