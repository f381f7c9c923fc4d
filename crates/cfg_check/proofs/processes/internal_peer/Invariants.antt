use Rattle.std.proofs.Common.{◌≡◌, take, map, flat_map}
use Rattle.cfg_ast.specs.meaning.RouterFaults.{internal_peers_of}
use Rattle.cfg_check.specs.Items.{neighbor_line}
use Rattle.cfg_check.specs.LeastLine.{least_line}
use Rattle.cfg_check.proofs.processes.internal_peer.Given as goal

abbrev pub invariant-loop-router : goal.invariant-loop-router
invariant-loop-router l = l.least ≡ least_line (map neighbor_line (flat_map internal_peers_of (take l.router-index l.routers)))
