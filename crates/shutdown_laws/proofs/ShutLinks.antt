-- The links of a network in which a neighbour has `shutdown`.
use Rattle.std.proofs.Common.{◌≡◌, ℕ, zero, suc, ◌+◌, ◌<◌, Bool, true, false, not, cond, ◌&&◌, ◌||◌, List, [], ◌∷◌, ◌++◌, map, Some, None, refl, sym, ◌∙◌, ap, subst, arith, inl, inr}
use Rattle.std.specs.Prelude.{filter, flat_map, nat_eq, nat_lt}
use Rattle.std.specs.List.{enumerate_from}
use Rattle.base_kit.proofs.Elements.{In}
use Rattle.base_kit.proofs.SetFacts.{same_number, other_number}
use Rattle.base_kit.specs.declared.protocol.Protocol.TheVariants.{Bgp as OverBgp}
use Rattle.cfg_ast.specs.declared.bgp.Neighbor.{Neighbor}
use Rattle.cfg_ast.specs.declared.network.Network.{Network}
use Rattle.cfg_ast.specs.declared.network.Router.{Router}
use Rattle.cfg_ast.specs.declared.topology.Link.{Link}
use Rattle.cfg_ast.specs.meaning.RouterFaults.{protocol_of}
use Rattle.cfg_ast.specs.meaning.Topology.{Place, place_on, places_on, places, link_between, links_from, links_joining, neighbors_of, has_number, share_subnet, is_session, sessions_of, adjacencies_of, links_of}
use Rattle.cfg_check.specs.Faultless.{IsFaultless}
use Rattle.net_topology.proofs.OneProtocol.{no_ospf, no_adjacencies}
use Rattle.shutdown_laws.specs.Shutdown.{changed_at, shut_line, shut_on, with_shutdown, is_end}
use Rattle.shutdown_laws.proofs.ChangedLists.{changed_in, filter_map_of, filter_same, filter_twice, filter_append, filter_flat_map, flat_map_same, flat_map_of_map, map_append, map_of_map}
use Rattle.shutdown_laws.proofs.ShutRouters.{same_number as number_kept, neighbors_shut}

module _ (r i : ℕ) where
  -- whether the line stands there
  abbrev is_there : Place Neighbor → Bool
  is_there p = nat_eq p.router r && nat_eq p.item i

  -- the place afterwards
  abbrev shut_place : Place Neighbor → Place Neighbor
  shut_place p = record {
    router = p.router;
    item = p.item;
    owner = cond (nat_eq p.router r) (shut_on i p.owner) p.owner;
    value = cond (is_there p) (shut_line p.value) p.value;
  }

  -- ---- places

  one_place : (m k : ℕ) (o o' : Router) (x x' : Neighbor) → o' ≡ cond (nat_eq m r) (shut_on i o) o →
      x' ≡ cond (nat_eq m r && nat_eq k i) (shut_line x) x → place_on m o' (k, x') ≡ shut_place (place_on m o (k, x))
  one_place m k o o' x x' eo ex = λ t. record { router = m; item = k; owner = eo t; value = ex t }

  aside : (m k : ℕ) (x : Neighbor) → (nat_eq m r && nat_eq k i) ≡ false → x ≡ cond (nat_eq m r && nat_eq k i) (shut_line x) x
  aside m k x e = ap (λ b. cond b (shut_line x) x) (sym e)

  and_false : (b : Bool) → (b && false) ≡ false
  and_false true = refl
  and_false false = refl

  -- lines behind the place stay
  later_lines : (m k : ℕ) (o o' : Router) (xs : List Neighbor) → o' ≡ cond (nat_eq m r) (shut_on i o) o → i < k →
      map (place_on m o') (enumerate_from k xs) ≡ map shut_place (map (place_on m o) (enumerate_from k xs))
  later_lines m k o o' [] eo past = refl
  later_lines m k o o' (x ∷ xs) eo past =
      let off : (nat_eq m r && nat_eq k i) ≡ false = ap (λ b. nat_eq m r && b) (other_number k i (λ e. omega arith)) ∙ and_false (nat_eq m r) in
      ap (λ p. p ∷ map (place_on m o') (enumerate_from (k + 1) xs)) (one_place m k o o' x x eo (aside m k x off))
      ∙ ap (λ rest. shut_place (place_on m o (k, x)) ∷ rest) (later_lines m (k + 1) o o' xs eo (omega arith))

  -- lines of other routers stay
  other_lines : (m k : ℕ) (o : Router) (xs : List Neighbor) → nat_eq m r ≡ false →
      map (place_on m o) (enumerate_from k xs) ≡ map shut_place (map (place_on m o) (enumerate_from k xs))
  other_lines m k o [] e = refl
  other_lines m k o (x ∷ xs) e =
      ap (λ p. p ∷ map (place_on m o) (enumerate_from (k + 1) xs))
      (one_place m k o o x x (ap (λ b. cond b (shut_on i o) o) (sym e)) (aside m k x (ap (λ b. b && nat_eq k i) e)))
      ∙ ap (λ rest. shut_place (place_on m o (k, x)) ∷ rest) (other_lines m (k + 1) o xs e)

  shut_lines : (m k j : ℕ) (o : Router) (xs : List Neighbor) → nat_eq m r ≡ true → k + j ≡ i →
      map (place_on m (shut_on i o)) (enumerate_from k (changed_at shut_line j xs)) ≡ map shut_place (map (place_on m o) (enumerate_from k xs))
  shut_lines m k j o [] e at = refl
  shut_lines m k zero o (x ∷ xs) e at =
      let here : (nat_eq m r && nat_eq k i) ≡ true = ap (λ b. b && nat_eq k i) e ∙ same_number k i (omega arith) in
      let eo : shut_on i o ≡ cond (nat_eq m r) (shut_on i o) o = ap (λ b. cond b (shut_on i o) o) (sym e) in
      ap (λ p. p ∷ map (place_on m (shut_on i o)) (enumerate_from (k + 1) xs))
      (one_place m k o (shut_on i o) x (shut_line x) eo (ap (λ b. cond b (shut_line x) x) (sym here)))
      ∙ ap (λ rest. shut_place (place_on m o (k, x)) ∷ rest) (later_lines m (k + 1) o (shut_on i o) xs eo (omega arith))
  shut_lines m k (suc j) o (x ∷ xs) e at =
      let off : (nat_eq m r && nat_eq k i) ≡ false = ap (λ b. nat_eq m r && b) (other_number k i (λ same. omega arith)) ∙ and_false (nat_eq m r) in
      let eo : shut_on i o ≡ cond (nat_eq m r) (shut_on i o) o = ap (λ b. cond b (shut_on i o) o) (sym e) in
      ap (λ p. p ∷ map (place_on m (shut_on i o)) (enumerate_from (k + 1) (changed_at shut_line j xs))) (one_place m k o (shut_on i o) x x eo (aside m k x off))
      ∙ ap (λ rest. shut_place (place_on m o (k, x)) ∷ rest) (shut_lines m (k + 1) j o xs e (omega arith))

  later_routers : (k : ℕ) (routers : List Router) → r < k →
      flat_map (places_on neighbors_of) (enumerate_from k routers) ≡ map shut_place (flat_map (places_on neighbors_of) (enumerate_from k routers))
  later_routers k [] past = refl
  later_routers k (o ∷ routers) past =
      ap (λ ps. ps ++ flat_map (places_on neighbors_of) (enumerate_from (k + 1) routers))
      (other_lines k 0 o (neighbors_of o) (other_number k r (λ e. omega arith)))
      ∙ ap (λ rest. map shut_place (places_on neighbors_of (k, o)) ++ rest) (later_routers (k + 1) routers (omega arith))
      ∙ sym (map_append shut_place (places_on neighbors_of (k, o)) (flat_map (places_on neighbors_of) (enumerate_from (k + 1) routers)))

  shut_routers : (k j : ℕ) (routers : List Router) → k + j ≡ r → flat_map (places_on neighbors_of) (enumerate_from k (changed_at (shut_on i) j routers))
      ≡ map shut_place (flat_map (places_on neighbors_of) (enumerate_from k routers))
  shut_routers k j [] at = refl
  shut_routers k zero (o ∷ routers) at =
      ap (λ ps. ps ++ flat_map (places_on neighbors_of) (enumerate_from (k + 1) routers))
      (ap (λ xs. map (place_on k (shut_on i o)) (enumerate_from 0 xs)) (neighbors_shut i o)
      ∙ shut_lines k 0 i o (neighbors_of o) (same_number k r (omega arith)) (omega arith))
      ∙ ap (λ rest. map shut_place (places_on neighbors_of (k, o)) ++ rest) (later_routers (k + 1) routers (omega arith))
      ∙ sym (map_append shut_place (places_on neighbors_of (k, o)) (flat_map (places_on neighbors_of) (enumerate_from (k + 1) routers)))
  shut_routers k (suc j) (o ∷ routers) at =
      ap (λ ps. ps ++ flat_map (places_on neighbors_of) (enumerate_from (k + 1) (changed_at (shut_on i) j routers)))
      (other_lines k 0 o (neighbors_of o) (other_number k r (λ e. omega arith)))
      ∙ ap (λ rest. map shut_place (places_on neighbors_of (k, o)) ++ rest) (shut_routers (k + 1) j routers (omega arith))
      ∙ sym (map_append shut_place (places_on neighbors_of (k, o)) (flat_map (places_on neighbors_of) (enumerate_from (k + 1) routers)))

  shut_places : (n : Network) → places neighbors_of (with_shutdown n r i) ≡ map shut_place (places neighbors_of n)
  unfolding places
  shut_places n = shut_routers 0 r n.routers (omega arith)

  -- ---- sessions

  shut_of : (b : Bool) (x : Neighbor) → (cond b (shut_line x) x).shut ≡ (b || x.shut)
  shut_of true x = refl
  shut_of false x = refl

  remote_of : (b : Bool) (x : Neighbor) → (cond b (shut_line x) x).remote ≡ x.remote
  remote_of true x = refl
  remote_of false x = refl

  addr_of : (b : Bool) (x : Neighbor) → (cond b (shut_line x) x).addr ≡ x.addr
  addr_of true x = refl
  addr_of false x = refl

  number_of : (b : Bool) (o : Router) (number : ℕ) → has_number (cond b (shut_on i o) o) number ≡ has_number o number
  number_of true o number = number_kept i number o
  number_of false o number = refl

  subnet_of : (b c : Bool) (o q : Router) (x y : ℕ) → share_subnet (cond b (shut_on i o) o) x (cond c (shut_on i q) q) y ≡ share_subnet o x q y
  subnet_of true true o q x y = refl
  subnet_of true false o q x y = refl
  subnet_of false true o q x y = refl
  subnet_of false false o q x y = refl

  and_true : (b : Bool) → b ≡ (b && true)
  and_true true = refl
  and_true false = refl

  both_open : (l e a b s t rest : Bool) → (l && (e && (not (a || s) && (not (b || t) && rest)))) ≡ ((l && (e && (not s && (not t && rest)))) && not (a || b))
  both_open l e true b s t rest = ap (λ x. l && x) (and_false e) ∙ and_false l ∙ sym (and_false (l && (e && (not s && (not t && rest)))))
  both_open l e false true s t rest =
      ap (λ x. l && (e && x)) (and_false (not s)) ∙ ap (λ x. l && x) (and_false e) ∙ and_false l ∙ sym (and_false (l && (e && (not s && (not t && rest)))))
  both_open l e false false s t rest = and_true (l && (e && (not s && (not t && rest))))

  shut_session : (p q : Place Neighbor) → is_session (shut_place p) (shut_place q) ≡ (is_session p q && not (is_end r i (link_between p q)))
  shut_session p q =
      let l = nat_lt p.router q.router in
      let e = not (nat_eq p.router q.router) in
      let first = ap (λ s. l && (e && (not s && (not (shut_place q).value.shut && (has_number (shut_place q).owner (shut_place p).value.remote
      && (has_number (shut_place p).owner (shut_place q).value.remote
      && share_subnet (shut_place p).owner (shut_place q).value.addr (shut_place q).owner (shut_place p).value.addr)))))) (shut_of (is_there p) p.value) in
      let second = ap (λ s. l && (e && (not (is_there p || p.value.shut) && (not s && (has_number (shut_place q).owner (shut_place p).value.remote
      && (has_number (shut_place p).owner (shut_place q).value.remote
      && share_subnet (shut_place p).owner (shut_place q).value.addr (shut_place q).owner (shut_place p).value.addr)))))) (shut_of (is_there q) q.value) in
      let rest : (has_number (shut_place q).owner (shut_place p).value.remote && (has_number (shut_place p).owner (shut_place q).value.remote
      && share_subnet (shut_place p).owner (shut_place q).value.addr (shut_place q).owner (shut_place p).value.addr))
      ≡ (has_number q.owner p.value.remote && (has_number p.owner q.value.remote && share_subnet p.owner q.value.addr q.owner p.value.addr)) =
      ap (λ b. b && (has_number (shut_place p).owner (shut_place q).value.remote
      && share_subnet (shut_place p).owner (shut_place q).value.addr (shut_place q).owner (shut_place p).value.addr))
      (number_of (nat_eq q.router r) q.owner (shut_place p).value.remote ∙ ap (has_number q.owner) (remote_of (is_there p) p.value))
      ∙ ap (λ b. has_number q.owner p.value.remote && (b
      && share_subnet (shut_place p).owner (shut_place q).value.addr (shut_place q).owner (shut_place p).value.addr))
      (number_of (nat_eq p.router r) p.owner (shut_place q).value.remote ∙ ap (has_number p.owner) (remote_of (is_there q) q.value))
      ∙ ap (λ b. has_number q.owner p.value.remote && (has_number p.owner q.value.remote && b))
      (subnet_of (nat_eq p.router r) (nat_eq q.router r) p.owner q.owner (shut_place q).value.addr (shut_place p).value.addr
      ∙ ap (λ x. share_subnet p.owner x q.owner (shut_place p).value.addr) (addr_of (is_there q) q.value)
      ∙ ap (λ x. share_subnet p.owner q.value.addr q.owner x) (addr_of (is_there p) p.value)) in
      first ∙ second ∙ ap (λ x. l && (e && (not (is_there p || p.value.shut) && (not (is_there q || q.value.shut) && x)))) rest
      ∙ both_open l e (is_there p) (is_there q) p.value.shut q.value.shut
      (has_number q.owner p.value.remote && (has_number p.owner q.value.remote && share_subnet p.owner q.value.addr q.owner p.value.addr))

  abbrev stays : Link → Bool
  stays link = not (is_end r i link)

  from_place : (ps : List (Place Neighbor)) (p : Place Neighbor) →
      links_from is_session (map shut_place ps) (shut_place p) ≡ filter stays (links_from is_session ps p)
  from_place ps p =
      ap (map (link_between (shut_place p))) (filter_map_of (is_session (shut_place p)) shut_place ps)
      ∙ map_of_map (link_between (shut_place p)) shut_place (filter (λ q. is_session (shut_place p) (shut_place q)) ps)
      ∙ ap (map (link_between p)) (filter_same (λ q. is_session (shut_place p) (shut_place q)) (λ q. is_session p q && stays (link_between p q)) ps
      (shut_session p)
      ∙ filter_twice (is_session p) (λ q. stays (link_between p q)) ps)
      ∙ sym (filter_map_of stays (link_between p) (filter (is_session p) ps))

  shut_sessions : (n : Network) → sessions_of (with_shutdown n r i) ≡ filter stays (sessions_of n)
  unfolding sessions_of
  shut_sessions n =
      ap (links_joining is_session) (shut_places n)
      ∙ flat_map_of_map (links_from is_session (map shut_place (places neighbors_of n))) shut_place (places neighbors_of n)
      ∙ flat_map_same (λ p. links_from is_session (map shut_place (places neighbors_of n)) (shut_place p))
      (λ p. filter stays (links_from is_session (places neighbors_of n) p)) (places neighbors_of n) (from_place (places neighbors_of n))
      ∙ filter_flat_map stays (links_from is_session (places neighbors_of n)) (places neighbors_of n)

  -- ---- links

  silent_after : (n : Network) → ((router : Router) → In n.routers router → router.ospf ≡ None) → (router : Router) → In (with_shutdown n r i).routers router →
      router.ospf ≡ None
  silent_after n none router at =
      let was = changed_in (shut_on i) r n.routers router at in
      elim was.2 [
        | inl same ↦ subst (λ (x : Router). x.ospf ≡ None) same (none was.0 was.1)
        | inr shut ↦ subst (λ (x : Router). x.ospf ≡ None) shut (none was.0 was.1)
      ]

  -- the links that are left, in order
  pub shut_links : (n : Network) → IsFaultless n → protocol_of n ≡ Some OverBgp → links_of (with_shutdown n r i) ≡ filter stays (links_of n)
  unfolding links_of
  shut_links n faultless bgp =
      let none = no_ospf n bgp faultless.mixed_protocols in
      let before : adjacencies_of n ≡ [] = no_adjacencies n none in
      let after : adjacencies_of (with_shutdown n r i) ≡ [] = no_adjacencies (with_shutdown n r i) (silent_after n none) in
      ap (λ ls. ls ++ adjacencies_of (with_shutdown n r i)) (shut_sessions n)
      ∙ ap (λ ls. filter stays (sessions_of n) ++ ls) (after ∙ ap (filter stays) (sym before))
      ∙ sym (filter_append stays (sessions_of n) (adjacencies_of n))
