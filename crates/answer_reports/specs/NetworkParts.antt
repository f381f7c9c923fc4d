-- The part of a report that is the same for all classes of a network.
use Rattle.std.specs.Prelude.{◌≡◌, length}
use Rattle.cfg_ast.specs.declared.network.Network.{Network}
use Rattle.cfg_ast.specs.meaning.Topology.{links_of, unmatched_of}
use Rattle.answer_reports.specs.declared.report.NetworkPart.{NetworkPart}

-- how many links the network has, and its neighbors of no session
pub record IsNetworkPart (network : Network) (part : NetworkPart) : Type 0 where
  pub links : part.links ≡ length (links_of network)
  pub unmatched : part.unmatched ≡ unmatched_of network
