-- The index over the ends of neighbour lines finds the sessions.
use Rattle.std.proofs.Common.{◌≡◌, ℕ, suc, ◌+◌, Bool, true, false, not, cond, ◌&&◌, List, [], ◌∷◌, ◌++◌, map, flat_map, length, nat_lt, nat_eq, Option, Some, None, refl, sym, ◌∙◌, ap, subst, arith}
use Rattle.std.specs.Prelude.{slice_get}
use Rattle.std.specs.Option.{option_and_then, option_map_or}
use Rattle.std.specs.List.{enumerate_from}
use Rattle.std.proofs.lemmas.Bool.Decides.{nat_tests}
use Rattle.cfg_ast.specs.declared.bgp.BgpProcess.{BgpProcess}
use Rattle.cfg_ast.specs.declared.bgp.Neighbor.{Neighbor}
use Rattle.cfg_ast.specs.declared.network.Network.{Network}
use Rattle.cfg_ast.specs.declared.network.Router.{Router}
use Rattle.cfg_ast.specs.meaning.Topology.{Place, places, places_on, place_on, neighbors_of, has_number, share_subnet, is_session, sessions_of}
use Rattle.cfg_check.specs.Faultless.{IsFaultless}
use Rattle.net_topology.specs.declared.peers.Peer.{Peer}
use Rattle.net_topology.specs.Peers.{peer_of_process, peer_at_place, peers, named_end, is_end_of, is_later_peer, peer_link, sessions_in}
use Rattle.net_topology.specs.Ups.{ups_of}
use Rattle.net_topology.proofs.Apart.{AreApart, ups_apart}
use Rattle.net_topology.proofs.Ends.{share_is}
use Rattle.net_topology.proofs.Joined.{IsIndexed, AreGood, joined_by_index}

-- the place is one of these routers
abbrev pub IsPlace : List Router → Place Neighbor → Type 0
IsPlace routers p = slice_get routers p.router ≡ Some p.owner

append_good : (routers : List Router) (ps qs : List (Place Neighbor)) → AreGood (IsPlace routers) ps → AreGood (IsPlace routers) qs →
    AreGood (IsPlace routers) (ps ++ qs)
append_good routers [] qs a b = b
append_good routers (p ∷ ps) qs a b = (a.0, append_good routers ps qs a.1 b)

on_good : (routers : List Router) (r : ℕ) (owner : Router) (n : ℕ) (xs : List Neighbor) → slice_get routers r ≡ Some owner →
    AreGood (IsPlace routers) (map (place_on r owner) (enumerate_from n xs))
on_good routers r owner n [] e = tt
on_good routers r owner n (x ∷ xs) e = (e, on_good routers r owner (n + 1) xs e)

from_good : (routers : List Router) (r : ℕ) (rs : List Router) → ((k : ℕ) (x : Router) → slice_get rs k ≡ Some x → slice_get routers (r + k) ≡ Some x) →
    AreGood (IsPlace routers) (flat_map (places_on neighbors_of) (enumerate_from r rs))
from_good routers r [] at = tt
from_good routers r (x ∷ rs) at =
    append_good routers (places_on neighbors_of (r, x)) (flat_map (places_on neighbors_of) (enumerate_from (r + 1) rs))
    (on_good routers r x 0 (neighbors_of x) (let e : r + 0 ≡ r = omega arith in subst (λ k. slice_get routers k ≡ Some x) e (at 0 x refl)))
    (from_good routers (r + 1) rs (λ k y f. let e : r + suc k ≡ r + 1 + k = omega arith in subst (λ m. slice_get routers m ≡ Some y) e (at (suc k) y f)))

pub all_places : (n : Network) → AreGood (IsPlace n.routers) (places neighbors_of n)
unfolding places
all_places n = from_good n.routers 0 n.routers (λ k x f. let e : k ≡ 0 + k = omega arith in subst (λ m. slice_get n.routers m ≡ Some x) e f)

-- what a peer says of its place
pub record IsPeer (p : Place Neighbor) (s : Peer) : Type 0 where
  pub process : BgpProcess
  pub bgp : p.owner.bgp ≡ Some process
  pub open_ : p.value.shut ≡ false
  pub peer : record { router = p.router; item = p.item; number = process.number; remote = p.value.remote; addr = p.value.addr } ≡ s

in_process : (r i : ℕ) (x : Neighbor) (process : BgpProcess) (b : Bool) (s : Peer) → x.shut ≡ b →
    cond b None (Some (record { router = r; item = i; number = process.number; remote = x.remote; addr = x.addr })) ≡ Some s →
    (b ≡ false) × (record { router = r; item = i; number = process.number; remote = x.remote; addr = x.addr } ≡ s)
in_process r i x process true s e f = cc
in_process r i x process false s e f = (refl, cc)

is_peer_in : (p : Place Neighbor) (s : Peer) (o : Option BgpProcess) → p.owner.bgp ≡ o → option_and_then (peer_of_process p.router p.item p.value) o ≡ Some s →
    IsPeer p s
is_peer_in p s None e f = cc
is_peer_in p s (Some process) e f =
    let parts = in_process p.router p.item p.value process p.value.shut s refl f in
    record { process = process; bgp = e; open_ = parts.0; peer = parts.1 }

pub is_peer : (p : Place Neighbor) (s : Peer) → peer_at_place p ≡ Some s → IsPeer p s
is_peer p s e = is_peer_in p s p.owner.bgp refl e

pub number_at : (owner : Router) (process : BgpProcess) (number : ℕ) → owner.bgp ≡ Some process → has_number owner number ≡ nat_eq process.number number
number_at owner process number e = ap (λ (o : Option BgpProcess). option_map_or (λ (process : BgpProcess). nat_eq process.number number) o false) e

sessions_same : (u v m r n k : ℕ) (a b c d share reach : Bool) → a ≡ false → b ≡ false → c ≡ nat_eq n r → d ≡ nat_eq m k → share ≡ reach
    → (nat_lt u v && (not (nat_eq u v) && (not a && (not b && (c && (d && share)))))) ≡ (reach && (nat_lt u v && (nat_eq r n && nat_eq m k)))
sessions_same u v m r n k a b c d share reach e f g h i = grind (arith, nat_tests)

-- the peer that a process gives a place
abbrev pub made : Place Neighbor → BgpProcess → Peer
made p process = record { router = p.router; item = p.item; number = process.number; remote = p.value.remote; addr = p.value.addr }

-- the peer at the end of another, by the index
abbrev pub is_reached : List Router → Peer → Peer → Bool
is_reached routers s t = is_end_of (named_end (ups_of routers) s) t

both_made : (routers : List Router) (p q : Place Neighbor) (x y : BgpProcess) → AreApart (ups_of routers) → IsPlace routers p → IsPlace routers q →
    p.owner.bgp ≡ Some x → q.owner.bgp ≡ Some y → p.value.shut ≡ false → q.value.shut ≡ false
    → is_session p q ≡ (is_reached routers (made p x) (made q y) && is_later_peer (made p x) (made q y))
both_made routers p q x y apart at_p at_q e f g h =
    sessions_same p.router q.router x.number p.value.remote y.number q.value.remote p.value.shut q.value.shut (has_number q.owner p.value.remote)
    (has_number p.owner q.value.remote) (share_subnet p.owner q.value.addr q.owner p.value.addr) (is_reached routers (made p x) (made q y))
    g h (number_at q.owner y p.value.remote f) (number_at p.owner x q.value.remote e) (share_is routers (made p x) (made q y) p.owner q.owner apart at_p at_q)

both : (routers : List Router) (p q : Place Neighbor) (s t : Peer) → AreApart (ups_of routers) → IsPlace routers p → IsPlace routers q → IsPeer p s →
    IsPeer q t → is_session p q ≡ (is_reached routers s t && is_later_peer s t)
both routers p q s t apart at_p at_q a b =
    both_made routers p q a.process b.process apart at_p at_q a.bgp b.bgp a.open_ b.open_
    ∙ ap (λ (z : Peer). is_reached routers z (made q b.process) && is_later_peer z (made q b.process)) a.peer
    ∙ ap (λ (z : Peer). is_reached routers s z && is_later_peer s z) b.peer

pub and_false : (b : Bool) → (b && false) ≡ false
and_false true = refl
and_false false = refl

shut_left : (u v : ℕ) (a b c d share : Bool) → (not a && d) ≡ false → (nat_lt u v && (not (nat_eq u v) && (not a && (not b && (c && (d && share)))))) ≡ false
shut_left u v true b c d share e = ap (λ (t : Bool). nat_lt u v && t) (and_false (not (nat_eq u v))) ∙ and_false (nat_lt u v)
shut_left u v false true c d share e = ap (λ (t : Bool). nat_lt u v && t) (and_false (not (nat_eq u v))) ∙ and_false (nat_lt u v)
shut_left u v false false false d share e = ap (λ (t : Bool). nat_lt u v && t) (and_false (not (nat_eq u v))) ∙ and_false (nat_lt u v)
shut_left u v false false true true share e = cc
shut_left u v false false true false share e = ap (λ (t : Bool). nat_lt u v && t) (and_false (not (nat_eq u v))) ∙ and_false (nat_lt u v)

shut_right : (u v : ℕ) (a b c d share : Bool) → (not b && c) ≡ false → (nat_lt u v && (not (nat_eq u v) && (not a && (not b && (c && (d && share)))))) ≡ false
shut_right u v true b c d share e = ap (λ (t : Bool). nat_lt u v && t) (and_false (not (nat_eq u v))) ∙ and_false (nat_lt u v)
shut_right u v false true c d share e = ap (λ (t : Bool). nat_lt u v && t) (and_false (not (nat_eq u v))) ∙ and_false (nat_lt u v)
shut_right u v false false false d share e = ap (λ (t : Bool). nat_lt u v && t) (and_false (not (nat_eq u v))) ∙ and_false (nat_lt u v)
shut_right u v false false true d share e = cc

closed : (shut : Bool) (process : BgpProcess) (number : ℕ) (s : Peer) → cond shut None (Some s) ≡ None → (not shut && nat_eq process.number number) ≡ false
closed true process number s e = refl
closed false process number s e = cc

pub no_peer_in : (p : Place Neighbor) (o : Option BgpProcess) (number : ℕ) → option_and_then (peer_of_process p.router p.item p.value) o ≡ None →
    (not p.value.shut && option_map_or (λ (process : BgpProcess). nat_eq process.number number) o false) ≡ false
no_peer_in p None number e = and_false (not p.value.shut)
no_peer_in p (Some process) number e = closed p.value.shut process number (made p process) e

peers_indexed : (routers : List Router) → AreApart (ups_of routers)
    → IsIndexed (IsPlace routers) peer_at_place is_session (is_reached routers) is_later_peer peer_link
peers_indexed routers apart = record {
  left = λ p q e. shut_left p.router q.router p.value.shut q.value.shut (has_number q.owner p.value.remote) (has_number p.owner q.value.remote)
      (share_subnet p.owner q.value.addr q.owner p.value.addr) (no_peer_in p p.owner.bgp q.value.remote e);
  right = λ p q e. shut_right p.router q.router p.value.shut q.value.shut (has_number q.owner p.value.remote) (has_number p.owner q.value.remote)
      (share_subnet p.owner q.value.addr q.owner p.value.addr) (no_peer_in q q.owner.bgp p.value.remote e);
  both = λ p q s t g h e f. both routers p q s t apart g h (is_peer p s e) (is_peer q t f);
  same = λ p q s t e f. ap (λ (z : Peer). peer_link z (made q (is_peer q t f).process)) (is_peer p s e).peer
      ∙ ap (λ (z : Peer). peer_link s z) (is_peer q t f).peer;
}

pub sessions_by_index : (n : Network) → IsFaultless n → sessions_of n ≡ flat_map (sessions_in (ups_of n.routers) (peers n)) (peers n)
unfolding sessions_of peers
sessions_by_index n faultless = joined_by_index (IsPlace n.routers) peer_at_place is_session (is_reached n.routers) is_later_peer peer_link
    (peers_indexed n.routers (ups_apart n faultless)) (places neighbors_of n) (all_places n)

is_zero : (n : ℕ) → nat_eq n 0 ≡ true → n ≡ 0
is_zero n e = grind (arith, nat_tests)

-- without peers there are none
pub no_sessions : (n : Network) → IsFaultless n → (all : List Peer) → all ≡ peers n → nat_eq (length all) 0 ≡ true → [] ≡ sessions_of n
no_sessions n faultless [] e f =
    sym (sessions_by_index n faultless ∙ ap (λ (ps : List Peer). flat_map (sessions_in (ups_of n.routers) ps) ps) (sym e))
no_sessions n faultless (p ∷ all) e f = let none = is_zero (length (p ∷ all)) f in absurd (omega arith)
