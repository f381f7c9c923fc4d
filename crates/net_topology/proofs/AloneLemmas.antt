-- Neighbours that are part of no session: an index finds the same ones as all pairs.
use Rattle.std.proofs.Common.{◌≡◌, ℕ, Bool, true, false, not, cond, ◌&&◌, ◌||◌, List, [], ◌∷◌, map, filter, filter_map, flat_map, nat_eq, Option, Some, None, refl, ◌∙◌, ap, arith}
use Rattle.std.specs.List.{list_any, cons_option, enumerate_from}
use Rattle.std.proofs.lemmas.Bool.Decides.{nat_tests}
use Rattle.cfg_ast.specs.declared.bgp.BgpProcess.{BgpProcess}
use Rattle.cfg_ast.specs.declared.bgp.Neighbor.{Neighbor}
use Rattle.cfg_ast.specs.declared.network.Network.{Network}
use Rattle.cfg_ast.specs.declared.network.Router.{Router}
use Rattle.cfg_ast.specs.declared.topology.Unmatched.{Unmatched}
use Rattle.cfg_ast.specs.meaning.Topology.{Place, places, places_on, neighbors_of, has_number, share_subnet, are_peers, unmatched_at, unmatched_of}
use Rattle.cfg_check.specs.Faultless.{IsFaultless}
use Rattle.net_topology.specs.declared.peers.Peer.{Peer}
use Rattle.net_topology.specs.Peers.{peer_at_place, peers}
use Rattle.net_topology.specs.Ups.{ups_of}
use Rattle.net_topology.specs.Alone.{faces, has_session, unmatched_if, unmatched_spot}
use Rattle.net_topology.proofs.Apart.{AreApart, ups_apart}
use Rattle.net_topology.proofs.Ends.{share_is}
use Rattle.net_topology.proofs.Joined.{AreGood}
use Rattle.net_topology.proofs.SessionLemmas.{IsPlace, IsPeer, made, all_places, is_peer, is_reached, number_at, no_peer_in, and_false}

peers_same : (u v m r n k : ℕ) (a b c d share reach : Bool) → a ≡ false → b ≡ false → c ≡ nat_eq n r → d ≡ nat_eq m k → share ≡ reach
    → (not (nat_eq u v) && (not a && (not b && (c && (d && share))))) ≡ (reach && (not (nat_eq u v) && (nat_eq r n && nat_eq m k)))
peers_same u v m r n k a b c d share reach e f g h i = grind (arith, nat_tests)

both_made : (routers : List Router) (p q : Place Neighbor) (x y : BgpProcess) → AreApart (ups_of routers) → IsPlace routers p → IsPlace routers q →
    p.owner.bgp ≡ Some x → q.owner.bgp ≡ Some y → p.value.shut ≡ false → q.value.shut ≡ false
    → are_peers p q ≡ (is_reached routers (made p x) (made q y) && faces (made p x) (made q y))
both_made routers p q x y apart at_p at_q e f g h =
    peers_same p.router q.router x.number p.value.remote y.number q.value.remote p.value.shut q.value.shut (has_number q.owner p.value.remote)
    (has_number p.owner q.value.remote) (share_subnet p.owner q.value.addr q.owner p.value.addr) (is_reached routers (made p x) (made q y))
    g h (number_at q.owner y p.value.remote f) (number_at p.owner x q.value.remote e) (share_is routers (made p x) (made q y) p.owner q.owner apart at_p at_q)

both : (routers : List Router) (p q : Place Neighbor) (s t : Peer) → AreApart (ups_of routers) → IsPlace routers p → IsPlace routers q → IsPeer p s →
    IsPeer q t → are_peers p q ≡ (is_reached routers s t && faces s t)
both routers p q s t apart at_p at_q a b =
    both_made routers p q a.process b.process apart at_p at_q a.bgp b.bgp a.open_ b.open_
    ∙ ap (λ (z : Peer). is_reached routers z (made q b.process) && faces z (made q b.process)) a.peer
    ∙ ap (λ (z : Peer). is_reached routers s z && faces s z) b.peer

shut_left : (u v : ℕ) (a b c d share : Bool) → (not a && d) ≡ false → (not (nat_eq u v) && (not a && (not b && (c && (d && share))))) ≡ false
shut_left u v true b c d share e = and_false (not (nat_eq u v))
shut_left u v false true c d share e = and_false (not (nat_eq u v))
shut_left u v false false false d share e = and_false (not (nat_eq u v))
shut_left u v false false true true share e = cc
shut_left u v false false true false share e = and_false (not (nat_eq u v))

shut_right : (u v : ℕ) (a b c d share : Bool) → (not b && c) ≡ false → (not (nat_eq u v) && (not a && (not b && (c && (d && share))))) ≡ false
shut_right u v true b c d share e = and_false (not (nat_eq u v))
shut_right u v false true c d share e = and_false (not (nat_eq u v))
shut_right u v false false false d share e = and_false (not (nat_eq u v))
shut_right u v false false true d share e = cc

no_left : (p q : Place Neighbor) → peer_at_place p ≡ None → are_peers p q ≡ false
no_left p q e = shut_left p.router q.router p.value.shut q.value.shut (has_number q.owner p.value.remote) (has_number p.owner q.value.remote)
    (share_subnet p.owner q.value.addr q.owner p.value.addr) (no_peer_in p p.owner.bgp q.value.remote e)

no_right : (p q : Place Neighbor) → peer_at_place q ≡ None → are_peers p q ≡ false
no_right p q e = shut_right p.router q.router p.value.shut q.value.shut (has_number q.owner p.value.remote) (has_number p.owner q.value.remote)
    (share_subnet p.owner q.value.addr q.owner p.value.addr) (no_peer_in q q.owner.bgp p.value.remote e)

none_peers : (p : Place Neighbor) (qs : List (Place Neighbor)) → peer_at_place p ≡ None → list_any (are_peers p) qs ≡ false
none_peers p [] e = refl
none_peers p (q ∷ qs) e = ap (λ (b : Bool). b || list_any (are_peers p) qs) (no_left p q e) ∙ none_peers p qs e

kept : (f : Peer → Bool) (t : Peer) (a b : Bool) (rest : List Peer) (all : Bool) → a ≡ (b && f t) → all ≡ list_any f rest →
    (a || all) ≡ list_any f (cond b (t ∷ rest) rest)
kept f t a true rest all e g = ap (λ (x : Bool). x || all) e ∙ ap (λ (x : Bool). f t || x) g
kept f t a false rest all e g = ap (λ (x : Bool). x || all) e ∙ g

one_more : (routers : List Router) (p q : Place Neighbor) (s : Peer) (o : Option Peer) (qs : List (Place Neighbor)) (ss : List Peer) →
    AreApart (ups_of routers) → IsPlace routers p → IsPlace routers q → peer_at_place p ≡ Some s → peer_at_place q ≡ o
    → list_any (are_peers p) qs ≡ list_any (faces s) (filter (is_reached routers s) ss) →
    list_any (are_peers p) (q ∷ qs) ≡ list_any (faces s) (filter (is_reached routers s) (cons_option o ss))
one_more routers p q s None qs ss apart g h e f ih = ap (λ (b : Bool). b || list_any (are_peers p) qs) (no_right p q f) ∙ ih
one_more routers p q s (Some t) qs ss apart g h e f ih =
    kept (faces s) t (are_peers p q) (is_reached routers s t) (filter (is_reached routers s) ss) (list_any (are_peers p) qs)
    (both routers p q s t apart g h (is_peer p s e) (is_peer q t f)) ih

any_peer : (routers : List Router) (p : Place Neighbor) (s : Peer) (qs : List (Place Neighbor)) → AreApart (ups_of routers) → IsPlace routers p →
    AreGood (IsPlace routers) qs → peer_at_place p ≡ Some s → list_any (are_peers p) qs
    ≡ list_any (faces s) (filter (is_reached routers s) (filter_map peer_at_place qs))
any_peer routers p s [] apart g all e = refl
any_peer routers p s (q ∷ qs) apart g all e =
    one_more routers p q s (peer_at_place q) qs (filter_map peer_at_place qs) apart g all.0 e refl (any_peer routers p s qs apart g all.1 e)

by_peer : (routers : List Router) (p : Place Neighbor) (o : Option Peer) (qs : List (Place Neighbor)) → AreApart (ups_of routers) → IsPlace routers p →
    AreGood (IsPlace routers) qs → peer_at_place p ≡ o → list_any (are_peers p) qs ≡ has_session (ups_of routers) (filter_map peer_at_place qs) o
by_peer routers p None qs apart g all e = none_peers p qs e
by_peer routers p (Some s) qs apart g all e = any_peer routers p s qs apart g all e

listed : (b : Bool) (p : Place Neighbor) (rest : List (Place Neighbor)) (more : List Unmatched) → map unmatched_at rest ≡ more →
    map unmatched_at (cond (not b) (p ∷ rest) rest) ≡ cons_option (unmatched_if b (unmatched_at p)) more
listed true p rest more e = e
listed false p rest more e = ap (λ (l : List Unmatched). unmatched_at p ∷ l) e

all_listed : (routers : List Router) (qs ps : List (Place Neighbor)) → AreApart (ups_of routers) → AreGood (IsPlace routers) qs → AreGood (IsPlace routers) ps
    → map unmatched_at (filter (λ p. not (list_any (are_peers p) qs)) ps) ≡ filter_map (unmatched_spot (ups_of routers) (filter_map peer_at_place qs)) ps
all_listed routers qs [] apart all these = refl
all_listed routers qs (p ∷ ps) apart all these =
    listed (list_any (are_peers p) qs) p (filter (λ p. not (list_any (are_peers p) qs)) ps)
    (filter_map (unmatched_spot (ups_of routers) (filter_map peer_at_place qs)) ps) (all_listed routers qs ps apart all these.1)
    ∙ ap (λ (b : Bool). cons_option (unmatched_if b (unmatched_at p)) (filter_map (unmatched_spot (ups_of routers) (filter_map peer_at_place qs)) ps))
    (by_peer routers p (peer_at_place p) qs apart these.0 all refl)

pub unmatched_by_index : (n : Network) → IsFaultless n →
    unmatched_of n ≡ filter_map (unmatched_spot (ups_of n.routers) (peers n)) (flat_map (places_on neighbors_of) (enumerate_from 0 n.routers))
unfolding unmatched_of peers places
unmatched_by_index n faultless = all_listed n.routers (places neighbors_of n) (places neighbors_of n) (ups_apart n faultless) (all_places n) (all_places n)
