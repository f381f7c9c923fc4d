use Rattle.std.proofs.Common.{◌≡◌, ℕ, List, [], ◌∷◌, filter, Option, None, refl, sym, ap, ◌∙◌}
use Rattle.net_topology.specs.Peers.{is_end_of}
use Rattle.net_topology.specs.declared.peers.Peer.{Peer}
use Rattle.net_topology.proofs.peers.Peers.at.Goals as goal

none_at_no_end : (all : List Peer) → filter (is_end_of None) all ≡ []
none_at_no_end [] = refl
none_at_no_end (s ∷ all) = none_at_no_end all

pub returns-in-None : goal.returns-in-None
returns-in-None c =
    let all = c.args.self.now.all.items in
    sym (ap (λ (end : Option (ℕ × ℕ)). filter (is_end_of end) all) c.in-None.is ∙ none_at_no_end all)
