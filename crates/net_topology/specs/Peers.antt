-- Neighbours that are not shut down, and the ends of their sessions.
use Rattle.std.specs.Prelude.{ℕ, Bool, false, ◌&&◌, List, Option, Some, None, map, filter, filter_map, nat_eq, nat_lt, if◌then◌else◌}
use Rattle.std.specs.Option.{option_and_then, option_map}
use Rattle.cfg_ast.specs.declared.bgp.BgpProcess.{BgpProcess}
use Rattle.cfg_ast.specs.declared.bgp.Neighbor.{Neighbor}
use Rattle.cfg_ast.specs.declared.network.Network.{Network}
use Rattle.cfg_ast.specs.declared.network.Router.{Router}
use Rattle.cfg_ast.specs.declared.topology.Link.{Link}
use Rattle.cfg_ast.specs.meaning.Topology.{Place, places, neighbors_of}
use Rattle.base_kit.specs.Pairs.{same_pair}
use Rattle.net_topology.specs.Ups.{addr_of, attachment_of, same_attachment, last_with}
use Rattle.net_topology.specs.declared.peers.Peer.{Peer}
use Rattle.net_topology.specs.declared.ups.Attachment.{Attachment}
use Rattle.net_topology.specs.declared.ups.Up.{Up}

abbrev pub peer_of_process : ℕ → ℕ → Neighbor → BgpProcess → Option Peer
peer_of_process r i x process = if x.shut then None else Some (record { router = r; item = i; number = process.number; remote = x.remote; addr = x.addr })

abbrev pub peer_on : ℕ → ℕ → Router → Neighbor → Option Peer
peer_on r i owner x = option_and_then (peer_of_process r i x) owner.bgp

-- the peer at a place, if its neighbour is not shut down
abbrev pub peer_at_place : Place Neighbor → Option Peer
peer_at_place p = peer_on p.router p.item p.owner p.value

unfoldable pub peers : Network → List Peer
peers n = filter_map peer_at_place (places neighbors_of n)

-- the router of a peer, and the address that it names
abbrev pub own_end : Peer → ℕ × ℕ
own_end s = (s.router, s.addr)

-- the router in the subnet of an interface of another router
abbrev pub beside : ℕ → Up → Attachment
beside router far = record { router = router; len = far.at.len; first = far.at.first }

abbrev pub end_from : List Up → ℕ → Up → Option (ℕ × ℕ)
end_from ups router far = option_map (λ (near : Up). (far.at.router, near.addr)) (last_with same_attachment attachment_of ups (beside router far))

-- the router that has the address that a peer names, and the address of the peer's own router in the
-- same subnet, which the other end of a session must name
abbrev pub named_end : List Up → Peer → Option (ℕ × ℕ)
named_end ups s = option_and_then (end_from ups s.router) (last_with nat_eq addr_of ups s.addr)

-- the same, if that router comes after the peer's own
abbrev pub end_after : List Up → ℕ → Up → Option (ℕ × ℕ)
end_after ups router far = if nat_lt router far.at.router then end_from ups router far else None

abbrev pub later_end : List Up → Peer → Option (ℕ × ℕ)
later_end ups s = option_and_then (end_after ups s.router) (last_with nat_eq addr_of ups s.addr)

abbrev pub is_end_of : Option (ℕ × ℕ) → Peer → Bool
is_end_of None t = false
is_end_of (Some end) t = same_pair end (own_end t)

-- each of two peers names the AS number of the other's router
abbrev pub name_each_other : Peer → Peer → Bool
name_each_other s t = nat_eq s.remote t.number && nat_eq s.number t.remote

abbrev pub is_later_peer : Peer → Peer → Bool
is_later_peer s t = nat_lt s.router t.router && name_each_other s t

abbrev pub peer_link : Peer → Peer → Link
peer_link s t = record { low = s.router; high = t.router; low_item = s.item; high_item = t.item }

-- the sessions of a peer with those of later routers
abbrev pub sessions_in : List Up → List Peer → Peer → List Link
sessions_in ups all s = map (peer_link s) (filter (is_later_peer s) (filter (is_end_of (named_end ups s)) all))
