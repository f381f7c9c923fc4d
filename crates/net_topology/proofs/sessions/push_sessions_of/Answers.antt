use Rattle.std.proofs.Common.{◌≡◌, ◌++◌, ℕ, List, Option, OnOk, filter, map, subst, ap, ◌∙◌}
use Rattle.net_topology.specs.declared.peers.Peer.{Peer}
use Rattle.net_topology.specs.Peers.{is_end_of, is_later_peer, peer_link}
use Rattle.net_topology.proofs.LaterEnds.{later_same}
use Rattle.net_topology.proofs.sessions.push_sessions_of.Goals as goal

pub returns : goal.returns
returns c =
    let later : List Peer → List Peer = filter (is_later_peer c.args.p.now) in
    let all = c.args.peers.now.all.items in
    subst (λ (found : List Peer). OnOk c.push_sessions.result (c.push_sessions.new.found ≡ c.args.found.now ++ map (peer_link c.args.p.now) found))
    (ap later (c.at.ensures ∙ ap (λ (end : Option (ℕ × ℕ)). filter (is_end_of end) all) c.later_end.ensures)
    ∙ later_same c.args.ups.now.all.items c.args.p.now all) c.push_sessions.ensures
