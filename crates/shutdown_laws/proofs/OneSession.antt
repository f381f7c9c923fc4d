-- A neighbour is an end of at most one link.
use Rattle.std.proofs.Common.{◌≡◌, ℕ, zero, suc, ◌+◌, ◌<◌, ◌≤◌, Bool, true, false, not, ◌&&◌, ◌||◌, List, [], ◌∷◌, ◌++◌, map, Option, Some, None, refl, sym, ◌∙◌, ap, subst, arith, inl, inr, ◌⊎◌, append-nil}
use Rattle.std.specs.Prelude.{filter, flat_map, nat_eq, nat_lt, slice_get, Contains, IfSome}
use Rattle.std.specs.Option.{option_map_or}
use Rattle.std.specs.List.{AllByRecursion, IsDistinct, enumerate_from}
use Rattle.std.proofs.lemmas.Bool.{cases_lt, eqb-false}
use Rattle.std.proofs.lemmas.Bool.Decides.{nat_tests}
use Rattle.base_kit.proofs.Elements.{In, contains_in, enumerate_in, filter_in, flat_map_in, get_in, map_in}
use Rattle.base_kit.specs.declared.protocol.Protocol.TheVariants.{Bgp as OverBgp}
use Rattle.cfg_ast.specs.declared.bgp.BgpProcess.{BgpProcess}
use Rattle.cfg_ast.specs.declared.bgp.Neighbor.{Neighbor}
use Rattle.cfg_ast.specs.declared.network.Network.{Network}
use Rattle.cfg_ast.specs.declared.network.Router.{Router}
use Rattle.cfg_ast.specs.declared.topology.Link.{Link}
use Rattle.cfg_ast.specs.meaning.RouterFaults.{protocol_of}
use Rattle.cfg_ast.specs.meaning.Topology.{Place, place_on, places_on, places, link_between, neighbors_of, has_number, share_subnet, are_peers, is_session, sessions_of, links_of}
use Rattle.cfg_ast.specs.printing.WellFormed.{same_neighbor, IsWellFormedBgp, IsWellFormedRouter}
use Rattle.cfg_check.specs.Faultless.{IsFaultless}
use Rattle.given_laws.specs.Laws.{neighbor_line_at, ends_from, ends_joining, link_of_ends, ArePairsAscending, Ends, IsPairBefore, LinksAreInOrder}
use Rattle.net_topology.specs.Peers.{beside}
use Rattle.net_topology.specs.Ups.{up_at, ups_of}
use Rattle.net_topology.proofs.Apart.{AreApart, ups_apart}
use Rattle.net_topology.proofs.Ends.{AreJoined, both, in_subnet, joined_if, one_number}
use Rattle.net_topology.proofs.LinkCounts.{subnet_either_way}
use Rattle.net_topology.proofs.OneProtocol.{no_ospf, no_adjacencies}
use Rattle.net_topology.proofs.UpFacts.{in_ups}
use Rattle.shutdown_laws.specs.Shutdown.{is_end}

-- ---- lists

all_at : {X : Type 0} (P : X → Type 0) (xs : List X) (k : ℕ) (x : X) → AllByRecursion P xs → slice_get xs k ≡ Some x → P x
all_at P [] k x all at = absurd cc
all_at {X} P (y ∷ ys) zero x all at = let same : y ≡ x = cc in subst P same all.0
all_at P (y ∷ ys) (suc k) x all at = all_at P ys k x all.1 at

-- neighbours of one process with one address stand at one place
one_item : (xs : List Neighbor) (j k : ℕ) (x y : Neighbor) → IsDistinct same_neighbor xs → slice_get xs j ≡ Some x → slice_get xs k ≡ Some y → x.addr ≡ y.addr
    → j ≡ k
unfolding IsDistinct
one_item [] j k x y apart at_x at_y same = absurd cc
one_item (z ∷ zs) zero zero x y apart at_x at_y same = refl
one_item (z ∷ zs) zero (suc k) x y apart at_x at_y same =
    let first : z ≡ x = cc in
    absurd (eqb-false z.addr y.addr (all_at (λ w. same_neighbor z w ≡ false) zs k y apart.0 at_y) (ap (λ (w : Neighbor). w.addr) first ∙ same))
one_item (z ∷ zs) (suc j) zero x y apart at_x at_y same =
    let first : z ≡ y = cc in
    absurd (eqb-false z.addr x.addr (all_at (λ w. same_neighbor z w ≡ false) zs j x apart.0 at_x) (ap (λ (w : Neighbor). w.addr) first ∙ sym same))
one_item (z ∷ zs) (suc j) (suc k) x y apart at_x at_y same = ap suc (one_item zs j k x y apart.1 at_x at_y same)

-- of two pairs the earlier is before the later
before_later : (ps : List (ℕ × ℕ)) (l m : ℕ) (a b : ℕ × ℕ) → ArePairsAscending ps → l < m → slice_get ps l ≡ Some a → slice_get ps m ≡ Some b → IsPairBefore a b
before_later [] l m a b ascending less at_a at_b = absurd cc
before_later (p ∷ ps) l zero a b ascending less at_a at_b = absurd (omega arith)
before_later (p ∷ ps) zero (suc m) a b ascending less at_a at_b =
    let first : p ≡ a = cc in
    subst (λ (x : ℕ × ℕ). IsPairBefore x b) first (all_at (IsPairBefore p) ps m b ascending.0 at_b)
before_later (p ∷ ps) (suc l) (suc m) a b ascending less at_a at_b = before_later ps l m a b ascending.1 (omega arith) at_a at_b

not_before : (a b : ℕ × ℕ) → a.0 ≡ b.0 → a.1 ≡ b.1 → IsPairBefore a b → ⊥
not_before a b first second (inl less) = omega (arith, first, less)
not_before a b first second (inr later) = (let less = later.1 in omega (arith, second, less))

was_mapped : {X Y : Type 0} (f : X → Y) (xs : List X) (k : ℕ) (y : Y) → slice_get (map f xs) k ≡ Some y → (x : X) × (slice_get xs k ≡ Some x) × (f x ≡ y)
was_mapped f [] k y at = absurd cc
was_mapped f (x ∷ xs) zero y at = (x, refl, cc)
was_mapped f (x ∷ xs) (suc k) y at = was_mapped f xs k y at

mapped : {X Y : Type 0} (f : X → Y) (xs : List X) (k : ℕ) (x : X) → slice_get xs k ≡ Some x → slice_get (map f xs) k ≡ Some (f x)
mapped f [] k x at = absurd cc
mapped {X} f (y ∷ ys) zero x at = let same : y ≡ x = cc in ap (λ z. Some (f z)) same
mapped f (y ∷ ys) (suc k) x at = mapped f ys k x at

one_less : (m k : ℕ) → nat_lt m k ≡ true → m < k
one_less m k e = grind (arith, nat_tests)

-- ---- places

-- the router and the line that stand at a place
record IsLineOf (n : Network) (p : Place Neighbor) : Type 0 where
  owner_at : slice_get n.routers p.router ≡ Some p.owner
  value_at : slice_get (neighbors_of p.owner) p.item ≡ Some p.value

line_of : (n : Network) (p : Place Neighbor) → In (places neighbors_of n) p → IsLineOf n p
unfolding places
line_of n p at =
    let on = flat_map_in (places_on neighbors_of) (enumerate_from 0 n.routers) p at in
    let router = enumerate_in n.routers 0 on.0.0 on.0.1 on.1 in
    let made = map_in (place_on on.0.0 on.0.1) (enumerate_from 0 (neighbors_of on.0.1)) p on.2 in
    let line = enumerate_in (neighbors_of on.0.1) 0 made.0.0 made.0.1 made.1 in
    let router_is : router.0 ≡ on.0.0 = (let k = router.1 in omega (arith, k)) in
    let item_is : line.0 ≡ made.0.0 = (let k = line.1 in omega (arith, k)) in
    subst (IsLineOf n) made.2 (record {
      owner_at = subst (λ (k : ℕ). slice_get n.routers k ≡ Some on.0.1) router_is router.2;
      value_at = subst (λ (k : ℕ). slice_get (neighbors_of on.0.1) k ≡ Some made.0.1) item_is line.2;
    })

-- places of one router and item are one
one_place : (n : Network) (p q : Place Neighbor) → IsLineOf n p → IsLineOf n q → p.router ≡ q.router → p.item ≡ q.item → p ≡ q
one_place n p q a b routers items =
    let owner_there = subst (λ (k : ℕ). slice_get n.routers k ≡ Some p.owner) routers a.owner_at in
    let owner_too = b.owner_at in
    let owners : p.owner ≡ q.owner = cc (owner_there, owner_too) in
    let value_there = subst (λ (o : Router). slice_get (neighbors_of o) p.item ≡ Some p.value) owners a.value_at in
    let value_here = subst (λ (k : ℕ). slice_get (neighbors_of q.owner) k ≡ Some p.value) items value_there in
    let value_too = b.value_at in
    let values : p.value ≡ q.value = cc (value_here, value_too) in
    λ t. record { router = routers t; item = items t; owner = owners t; value = values t }

-- ---- peers

joined_of : (p q : Place Neighbor) → is_session p q ≡ true → AreJoined p.owner q.owner q.value.addr p.value.addr
joined_of p q e =
    let peers = both (nat_lt p.router q.router) (are_peers p q) e in
    let a = both (not (nat_eq p.router q.router)) (not p.value.shut && (not q.value.shut
    && (has_number q.owner p.value.remote && (has_number p.owner q.value.remote && share_subnet p.owner q.value.addr q.owner p.value.addr)))) peers.1 in
    let b = both (not p.value.shut) (not q.value.shut
    && (has_number q.owner p.value.remote && (has_number p.owner q.value.remote && share_subnet p.owner q.value.addr q.owner p.value.addr))) a.1 in
    let c = both (not q.value.shut) (has_number q.owner p.value.remote
    && (has_number p.owner q.value.remote && share_subnet p.owner q.value.addr q.owner p.value.addr)) b.1 in
    let d = both (has_number q.owner p.value.remote) (has_number p.owner q.value.remote && share_subnet p.owner q.value.addr q.owner p.value.addr) c.1 in
    joined_if p.owner q.owner q.value.addr p.value.addr
    (both (has_number p.owner q.value.remote) (share_subnet p.owner q.value.addr q.owner p.value.addr) d.1).1

turned : (u v : Router) (a b : ℕ) → AreJoined u v a b → AreJoined v u b a
turned u v a b is = record {
  near = is.far;
  far = is.near;
  near_in = is.far_in;
  far_in = is.near_in;
  near_addr = is.far_addr;
  far_addr = is.near_addr;
  joined = subnet_either_way is.far is.near ∙ is.joined;
}

module _ (n : Network) (faultless : IsFaultless n) (formed : (router : Router) → Contains n.routers router → IsWellFormedRouter router) where
  apart : AreApart (ups_of n.routers)
  apart = ups_apart n faultless

  once_in : (o : Option BgpProcess) → IfSome o IsWellFormedBgp → IsDistinct same_neighbor (option_map_or (λ (process : BgpProcess). process.neighbors) o [])
  unfolding IsDistinct
  once_in None some = tt
  once_in (Some process) some = some.neighbors_once

  once : (p : Place Neighbor) → IsLineOf n p → IsDistinct same_neighbor (neighbors_of p.owner)
  once p at = once_in p.owner.bgp (formed p.owner (contains_in n.routers p.owner (get_in n.routers p.router p.owner at.owner_at))).bgp

  -- the far ends of two sessions of one line are one place
  one_end : (p q r : Place Neighbor) → IsLineOf n p → IsLineOf n q → IsLineOf n r → AreJoined p.owner q.owner q.value.addr p.value.addr
      → AreJoined p.owner r.owner r.value.addr p.value.addr → q ≡ r
  one_end p q r at_p at_q at_r a b =
      let far_a = up_at q.router a.far in
      let far_b = up_at r.router b.far in
      let near_a = up_at p.router a.near in
      let near_b = up_at p.router b.near in
      let far : far_a ≡ far_b = apart.addrs far_a far_b (in_ups n.routers q.router q.owner a.far at_q.owner_at a.far_in)
      (in_ups n.routers r.router r.owner b.far at_r.owner_at b.far_in) (a.far_addr ∙ sym b.far_addr) in
      let ats : near_a.at ≡ near_b.at = in_subnet p.router a.near a.far a.joined ∙ ap (beside p.router) far ∙ sym (in_subnet p.router b.near b.far b.joined) in
      let near : near_a ≡ near_b = apart.attachments near_a near_b (in_ups n.routers p.router p.owner a.near at_p.owner_at a.near_in)
      (in_ups n.routers p.router p.owner b.near at_p.owner_at b.near_in) ats in
      let routers : q.router ≡ r.router = λ t. (far t).at.router in
      let addrs : q.value.addr ≡ r.value.addr = sym a.near_addr ∙ (λ t. (near t).addr) ∙ b.near_addr in
      let owner_there = subst (λ (k : ℕ). slice_get n.routers k ≡ Some r.owner) (sym routers) at_r.owner_at in
      let owner_too = at_q.owner_at in
      let owners : r.owner ≡ q.owner = cc (owner_there, owner_too) in
      let other : slice_get (neighbors_of q.owner) r.item ≡ Some r.value =
      subst (λ (o : Router). slice_get (neighbors_of o) r.item ≡ Some r.value) owners at_r.value_at in
      one_place n q r at_q at_r routers (one_item (neighbors_of q.owner) q.item r.item q.value r.value (once q at_q) at_q.value_at other addrs)

  -- both ends of a session
  record IsSession (e : Ends Neighbor) : Type 0 where
    first : IsLineOf n e.0
    second : IsLineOf n e.1
    joins : is_session e.0 e.1 ≡ true

  session_of : (e : Ends Neighbor) → In (ends_joining is_session (places neighbors_of n)) e → IsSession e
  session_of e at =
      let ps = places neighbors_of n in
      let from = flat_map_in (ends_from is_session ps) ps e at in
      let made = map_in (λ (q : Place Neighbor). (from.0, q)) (filter (is_session from.0) ps) e from.2 in
      let joins = filter_in (is_session from.0) ps made.0 made.1 in
      subst IsSession made.2 (record { first = line_of n from.0 from.1; second = line_of n made.0 joins.0; joins = joins.1 })

  -- the place is one of the two ends
  abbrev StandsAt : ℕ → ℕ → Place Neighbor → Type 0
  StandsAt r i p = (p.router ≡ r) × (p.item ≡ i)

  there : (r i : ℕ) (p : Place Neighbor) → (nat_eq p.router r && nat_eq p.item i) ≡ true → StandsAt r i p
  there r i p e = (let parts = both (nat_eq p.router r) (nat_eq p.item i) e in (one_number p.router r parts.0, one_number p.item i parts.1))

  either : (a b : Bool) → (a || b) ≡ true → (a ≡ true) ⊎ (b ≡ true)
  either true b e = inl refl
  either false b e = inr e

  ends_at : (r i : ℕ) (e : Ends Neighbor) → is_end r i (link_of_ends e) ≡ true → StandsAt r i e.0 ⊎ StandsAt r i e.1
  ends_at r i e is = elim (either (nat_eq e.0.router r && nat_eq e.0.item i) (nat_eq e.1.router r && nat_eq e.1.item i) is) [
    | inl first ↦ inl (there r i e.0 first)
    | inr second ↦ inr (there r i e.1 second)
  ]

  earlier : (e : Ends Neighbor) → IsSession e → e.0.router < e.1.router
  earlier e s = one_less e.0.router e.1.router (both (nat_lt e.0.router e.1.router) (are_peers e.0 e.1) s.joins).0

  same_there : (r i : ℕ) (p q : Place Neighbor) → IsLineOf n p → IsLineOf n q → StandsAt r i p → StandsAt r i q → p ≡ q
  same_there r i p q a b x y = one_place n p q a b (x.0 ∙ sym y.0) (x.1 ∙ sym y.1)

  -- no line is the first end of one session and the second end of another
  crossed : (r i : ℕ) (e f : Ends Neighbor) → IsSession e → IsSession f → StandsAt r i e.0 → StandsAt r i f.1 → ⊥
  crossed r i e f s t x y =
      let near : e.0 ≡ f.1 = same_there r i e.0 f.1 s.first t.second x y in
      let second = turned f.0.owner f.1.owner f.1.value.addr f.0.value.addr (joined_of f.0 f.1 t.joins) in
      let joined = subst (λ (p : Place Neighbor). AreJoined p.owner f.0.owner f.0.value.addr p.value.addr) (sym near) second in
      let far : e.1 ≡ f.0 = one_end e.0 e.1 f.0 s.first s.second t.first (joined_of e.0 e.1 s.joins) joined in
      let up = earlier e s in
      let down = earlier f t in
      let low : e.0.router ≡ f.1.router = ap (λ (p : Place Neighbor). p.router) near in
      let high : e.1.router ≡ f.0.router = ap (λ (p : Place Neighbor). p.router) far in
      omega (arith, up, down, low, high)

  -- two sessions of one line have the same ends
  same_ends : (r i : ℕ) (e f : Ends Neighbor) → IsSession e → IsSession f → StandsAt r i e.0 ⊎ StandsAt r i e.1 → StandsAt r i f.0 ⊎ StandsAt r i f.1 → e ≡ f
  same_ends r i e f s t (inl x) (inl y) =
      let near : e.0 ≡ f.0 = same_there r i e.0 f.0 s.first t.first x y in
      let joined = subst (λ (p : Place Neighbor). AreJoined p.owner f.1.owner f.1.value.addr p.value.addr) (sym near) (joined_of f.0 f.1 t.joins) in
      let far : e.1 ≡ f.1 = one_end e.0 e.1 f.1 s.first s.second t.second (joined_of e.0 e.1 s.joins) joined in
      λ k. (near k, far k)
  same_ends r i e f s t (inr x) (inr y) =
      let near : e.1 ≡ f.1 = same_there r i e.1 f.1 s.second t.second x y in
      let first = turned e.0.owner e.1.owner e.1.value.addr e.0.value.addr (joined_of e.0 e.1 s.joins) in
      let second = turned f.0.owner f.1.owner f.1.value.addr f.0.value.addr (joined_of f.0 f.1 t.joins) in
      let joined = subst (λ (p : Place Neighbor). AreJoined p.owner f.0.owner f.0.value.addr p.value.addr) (sym near) second in
      let far : e.0 ≡ f.0 = one_end e.1 e.0 f.0 s.second s.first t.first first joined in
      λ k. (far k, near k)
  same_ends r i e f s t (inl x) (inr y) = absurd (crossed r i e f s t x y)
  same_ends r i e f s t (inr x) (inl y) = absurd (crossed r i f e t s y x)

  module _ (bgp : protocol_of n ≡ Some OverBgp) (order : LinksAreInOrder n) where
    abbrev pairs : List (Ends Neighbor)
    pairs = ends_joining is_session (places neighbors_of n)

    links_are : links_of n ≡ map link_of_ends pairs
    unfolding links_of sessions_of
    links_are = ap (λ ls. sessions_of n ++ ls) (no_adjacencies n (no_ospf n bgp faultless.mixed_protocols)) ∙ append-nil (sessions_of n) ∙ order.sessions.ends

    never : (r i l m : ℕ) (link other : Link) → l < m → slice_get (links_of n) l ≡ Some link → slice_get (links_of n) m ≡ Some other
        → is_end r i link ≡ true → is_end r i other ≡ true → ⊥
    never r i l m link other less at_l at_m ends also =
        let x = was_mapped link_of_ends pairs l link (ap (λ ls. slice_get ls l) (sym links_are) ∙ at_l) in
        let y = was_mapped link_of_ends pairs m other (ap (λ ls. slice_get ls m) (sym links_are) ∙ at_m) in
        let s = session_of x.0 (get_in pairs l x.0 x.1) in
        let t = session_of y.0 (get_in pairs m y.0 y.1) in
        let same : x.0 ≡ y.0 = same_ends r i x.0 y.0 s t (ends_at r i x.0 (ap (is_end r i) x.2 ∙ ends)) (ends_at r i y.0 (ap (is_end r i) y.2 ∙ also)) in
        let lines : Ends Neighbor → ℕ × ℕ = λ e. (neighbor_line_at e.0, neighbor_line_at e.1) in
        not_before (lines x.0) (lines y.0) (ap (λ (e : Ends Neighbor). neighbor_line_at e.0) same) (ap (λ (e : Ends Neighbor). neighbor_line_at e.1) same)
        (before_later (map lines pairs) l m (lines x.0) (lines y.0) order.sessions.ascending less (mapped lines pairs l x.0 x.1) (mapped lines pairs m y.0 y.1))

    pub one_link : (r i l m : ℕ) (link other : Link) → slice_get (links_of n) l ≡ Some link → slice_get (links_of n) m ≡ Some other
        → is_end r i link ≡ true → is_end r i other ≡ true → l ≡ m
    one_link r i l m link other at_l at_m ends also = elim (cases_lt l m) [
      | inl less ↦ absurd (never r i l m link other less at_l at_m ends also)
      | inr past ↦ elim (cases_lt m l) [
        | inl more ↦ absurd (never r i m l other link more at_m at_l also ends)
        | inr here ↦ omega (arith, past, here)
      ]
    ]
