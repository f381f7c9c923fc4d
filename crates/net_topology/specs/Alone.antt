-- Neighbours that are part of no session, by an index of the peers.
use Rattle.std.specs.Prelude.{Bool, true, false, not, ◌&&◌, List, Option, Some, None, filter, nat_eq}
use Rattle.std.specs.List.{list_any}
use Rattle.cfg_ast.specs.declared.bgp.Neighbor.{Neighbor}
use Rattle.cfg_ast.specs.declared.topology.Unmatched.{Unmatched}
use Rattle.cfg_ast.specs.meaning.Topology.{Place, unmatched_at}
use Rattle.net_topology.specs.declared.peers.Peer.{Peer}
use Rattle.net_topology.specs.declared.ups.Up.{Up}
use Rattle.net_topology.specs.Peers.{peer_at_place, named_end, is_end_of, name_each_other}

-- two peers of different routers that name each other's AS numbers
abbrev pub faces : Peer → Peer → Bool
faces s t = not (nat_eq s.router t.router) && name_each_other s t

abbrev pub has_session : List Up → List Peer → Option Peer → Bool
has_session ups all None = false
has_session ups all (Some s) = list_any (faces s) (filter (is_end_of (named_end ups s)) all)

abbrev pub unmatched_if : Bool → Unmatched → Option Unmatched
unmatched_if true x = None
unmatched_if false x = Some x

-- the neighbour of a place, if it is part of no session
abbrev pub unmatched_spot : List Up → List Peer → Place Neighbor → Option Unmatched
unmatched_spot ups all p = unmatched_if (has_session ups all (peer_at_place p)) (unmatched_at p)
