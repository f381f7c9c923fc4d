use Rattle.std.proofs.Common.{◌≡◌, take, flat_map}
use Rattle.net_topology.specs.Peers.{sessions_in}
use Rattle.net_topology.proofs.sessions.sessions_among.Given as goal

abbrev pub invariant-loop-p : goal.invariant-loop-p
invariant-loop-p l = l.found ≡ flat_map (sessions_in l.ups.all.items l.peers.all.items) (take l.p-index l.all)
