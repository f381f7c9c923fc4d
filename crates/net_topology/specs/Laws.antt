-- How many links there are in networks without faults.
use Rattle.std.specs.Prelude.{◌≤◌, ◌*◌, length, flat_map}
use Rattle.cfg_ast.specs.declared.network.Network.{Network}
use Rattle.cfg_ast.specs.meaning.Topology.{neighbors_of, sessions_of, links_of}
use Rattle.cfg_ast.specs.printing.WellFormed.{IsWellFormed}
use Rattle.cfg_check.specs.Faultless.{IsFaultless}

-- A session has two neighbour lines, and each line is part of at most one.
abbrev pub FewSessions : Type 0
FewSessions = (n : Network) → IsWellFormed n → IsFaultless n → 2 * length (sessions_of n) ≤ length (flat_map neighbors_of n.routers)

-- There are no more links than adjacencies may be.
abbrev pub FewLinks : Type 0
FewLinks = (n : Network) → IsWellFormed n → IsFaultless n → length (links_of n) ≤ 1048576
