use Rattle.std.proofs.Common.{◌≡◌, ◌++◌, take, filter, map}
use Rattle.net_topology.specs.Peers.{is_later_peer, peer_link}
use Rattle.net_topology.proofs.sessions.push_sessions.Given as goal

abbrev pub invariant-loop-q : goal.invariant-loop-q
invariant-loop-q l = l.found ≡ l.initial.found ++ map (peer_link l.p) (filter (is_later_peer l.p) (take l.q-index l.others))
