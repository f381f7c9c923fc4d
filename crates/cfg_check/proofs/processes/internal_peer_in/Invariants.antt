use Rattle.std.proofs.Common.{◌≡◌, take, map, filter, nat_eq}
use Rattle.cfg_check.specs.Items.{neighbor_line}
use Rattle.cfg_check.specs.LeastLine.{least_line}
use Rattle.cfg_ast.specs.declared.bgp.Neighbor.{Neighbor}
use Rattle.cfg_check.proofs.processes.internal_peer_in.Given as goal

abbrev pub invariant-loop-neighbor : goal.invariant-loop-neighbor
invariant-loop-neighbor l = l.least ≡ least_line
    (map neighbor_line (filter (λ (neighbor : Neighbor). nat_eq neighbor.remote l.process.number) (take l.neighbor-index l.neighbor-items)))
