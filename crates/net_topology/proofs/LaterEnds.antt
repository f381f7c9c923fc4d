-- Sessions with later routers end at later routers.
use Rattle.std.proofs.Common.{◌≡◌, ℕ, Bool, true, false, cond, ◌&&◌, List, [], ◌∷◌, filter, nat_lt, nat_eq, Option, Some, None, refl, sym, ap, ◌∙◌, arith}
use Rattle.std.specs.Option.{option_and_then, option_map}
use Rattle.std.proofs.lemmas.Bool.Decides.{nat_tests}
use Rattle.net_topology.specs.declared.peers.Peer.{Peer}
use Rattle.net_topology.specs.declared.ups.Up.{Up}
use Rattle.net_topology.specs.Ups.{addr_of, attachment_of, same_attachment, last_with}
use Rattle.net_topology.specs.Peers.{beside, end_from, end_after, named_end, later_end, is_end_of, name_each_other, is_later_peer}

not_later : (own r a other addr : ℕ) (x : Bool) → nat_lt own r ≡ false → (nat_eq r other && nat_eq a addr) ≡ true → (nat_lt own other && x) ≡ false
not_later own r a other addr x e f = grind (arith, nat_tests)

none_there : (s : Peer) (all : List Peer) → filter (is_later_peer s) (filter (is_end_of None) all) ≡ []
none_there s [] = refl
none_there s (t ∷ all) = none_there s all

none_later : (s : Peer) (r a : ℕ) (all : List Peer) → nat_lt s.router r ≡ false → filter (is_later_peer s) (filter (is_end_of (Some (r, a))) all) ≡ []
none_later s r a [] e = refl
none_later s r a (t ∷ all) e = by (is_end_of (Some (r, a)) t) refl (none_later s r a all e)
  where
    by : (b : Bool) → is_end_of (Some (r, a)) t ≡ b → filter (is_later_peer s) (filter (is_end_of (Some (r, a))) all) ≡ [] →
        filter (is_later_peer s) (cond b (t ∷ filter (is_end_of (Some (r, a))) all) (filter (is_end_of (Some (r, a))) all)) ≡ []
    by true f rest =
        let others = filter (is_later_peer s) (filter (is_end_of (Some (r, a))) all) in
        ap (λ (c : Bool). cond c (t ∷ others) others) (not_later s.router r a t.router t.addr (name_each_other s t) e f) ∙ rest
    by false f rest = rest

none_near : (s : Peer) (r : ℕ) (near : Option Up) (all : List Peer) → nat_lt s.router r ≡ false →
    filter (is_later_peer s) (filter (is_end_of (option_map (λ (x : Up). (r, x.addr)) near)) all) ≡ []
none_near s r None all e = none_there s all
none_near s r (Some near) all e = none_later s r near.addr all e

at_far : (ups : List Up) (s : Peer) (all : List Peer) (far : Up) (b : Bool) → nat_lt s.router far.at.router ≡ b →
    filter (is_later_peer s) (filter (is_end_of (cond b (end_from ups s.router far) None)) all) ≡
    filter (is_later_peer s) (filter (is_end_of (end_from ups s.router far)) all)
at_far ups s all far true e = refl
at_far ups s all far false e =
    none_there s all ∙ sym (none_near s far.at.router (last_with same_attachment attachment_of ups (beside s.router far)) all e)

by_far : (ups : List Up) (s : Peer) (all : List Peer) (far : Option Up) →
    filter (is_later_peer s) (filter (is_end_of (option_and_then (end_after ups s.router) far)) all) ≡
    filter (is_later_peer s) (filter (is_end_of (option_and_then (end_from ups s.router) far)) all)
by_far ups s all None = refl
by_far ups s all (Some far) = at_far ups s all far (nat_lt s.router far.at.router) refl

-- the later peers at a later end are those at the end
pub later_same : (ups : List Up) (s : Peer) (all : List Peer) →
    filter (is_later_peer s) (filter (is_end_of (later_end ups s)) all) ≡ filter (is_later_peer s) (filter (is_end_of (named_end ups s)) all)
later_same ups s all = by_far ups s all (last_with nat_eq addr_of ups s.addr)
