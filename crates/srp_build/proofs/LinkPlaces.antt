-- The links of a network join places of two of its routers, and their directions.
use Rattle.std.proofs.Common.{◌≡◌, ◌≢◌, ℕ, ◌<◌, Bool, true, false, ◌&&◌, List, inl, inr, length, Some, refl, sym, ◌∙◌, ap, subst, arith}
use Rattle.std.specs.Prelude.{All, filter, slice_get, nat_lt}
use Rattle.std.specs.List.{enumerate_from}
use Rattle.std.proofs.lemmas.Bool.Decides.{nat_tests}
use Rattle.by_key.proofs.KeyedItems.{all_from}
use Rattle.base_kit.proofs.Elements.{In, map_in, filter_in, flat_map_in, append_in, enumerate_in, get_in}
use Rattle.cfg_ast.specs.declared.network.Network.{Network}
use Rattle.cfg_ast.specs.declared.network.Router.{Router}
use Rattle.cfg_ast.specs.declared.topology.Link.{Link}
use Rattle.cfg_ast.specs.meaning.Topology.{Place, place_on, places_on, places, interfaces_of, neighbors_of, links_from, links_joining, link_between, is_session, are_peers, are_adjacent, share_area_subnet, sessions_of, adjacencies_of, links_of}
use Rattle.srp_core.specs.ProblemOf.{Direction, low_imports, high_imports, IsDirection}
use Rattle.srp_build.specs.declared.hops.Hop.{Hop}
use Rattle.srp_build.specs.Directions.{directions_of}
use Rattle.srp_build.specs.Hops.{into_low, into_high, hops_of, AreHopsInside}
use Rattle.srp_build.proofs.FirstUse.{within_get}
use Rattle.srp_build.proofs.SortedHops.{IsHopOf, hop_of, low_hop, high_hop, sorted_in, in_sorted}

-- ---- links

pub record IsPlace {X : Type 0} (items : Router → List X) (n : Network) (p : Place X) : Type 0 where
  pub at : slice_get n.routers p.router ≡ Some p.owner
  pub item : slice_get (items p.owner) p.item ≡ Some p.value

place_at : {X : Type 0} (items : Router → List X) (n : Network) (p : Place X) → In (places items n) p → IsPlace items n p
unfolding places
place_at {X} items n p h =
    let on = flat_map_in (places_on items) (enumerate_from 0 n.routers) p h in
    let router = enumerate_in n.routers 0 on.0.0 on.0.1 on.1 in
    let made = map_in (place_on on.0.0 on.0.1) (enumerate_from 0 (items on.0.1)) p on.2 in
    let item = enumerate_in (items on.0.1) 0 made.0.0 made.0.1 made.1 in
    let number : router.0 ≡ p.router = (let a : on.0.0 ≡ router.0 = (let e = router.1 in omega arith) in sym a ∙ ap (λ (q : Place X). q.router) made.2) in
    let owner : on.0.1 ≡ p.owner = ap (λ (q : Place X). q.owner) made.2 in
    let place : item.0 ≡ p.item = (let a : made.0.0 ≡ item.0 = (let e = item.1 in omega arith) in sym a ∙ ap (λ (q : Place X). q.item) made.2) in
    record {
      at = sym (ap (slice_get n.routers) number) ∙ router.2 ∙ ap (λ (r : Router). Some r) owner;
      item = ap (λ (r : Router). slice_get (items r) p.item) (sym owner) ∙ sym (ap (slice_get (items on.0.1)) place) ∙ item.2
          ∙ ap (λ (x : X). Some x) (ap (λ (q : Place X). q.value) made.2);
    }

-- a link that joins two places
pub record IsJoining {X : Type 0} (items : Router → List X) (joins : Place X → Place X → Bool) (n : Network) (l : Link) : Type 0 where
  pub low : Place X
  pub high : Place X
  pub low_at : IsPlace items n low
  pub high_at : IsPlace items n high
  pub joined : joins low high ≡ true
  pub is : link_between low high ≡ l

joining : {X : Type 0} (items : Router → List X) (joins : Place X → Place X → Bool) (n : Network) (l : Link) → In (links_joining joins (places items n)) l →
    IsJoining items joins n l
joining {X} items joins n l h =
    let at = flat_map_in (links_from joins (places items n)) (places items n) l h in
    let made = map_in (link_between at.0) (filter (joins at.0) (places items n)) l at.2 in
    let kept = filter_in (joins at.0) (places items n) made.0 made.1 in
    record { low = at.0; high = made.0; low_at = place_at items n at.0 at.1; high_at = place_at items n made.0 kept.0; joined = kept.1; is = made.2 }

pub session : (n : Network) (l : Link) → In (sessions_of n) l → IsJoining neighbors_of is_session n l
unfolding sessions_of
session n l h = joining neighbors_of is_session n l h

pub adjacency : (n : Network) (l : Link) → In (adjacencies_of n) l → IsJoining interfaces_of are_adjacent n l
unfolding adjacencies_of
adjacency n l h = joining interfaces_of are_adjacent n l h

pub and_first : (a b : Bool) → (a && b) ≡ true → a ≡ true
and_first true b h = refl
and_first false b h = absurd cc

pub and_second : (a b : Bool) → (a && b) ≡ true → b ≡ true
and_second true b h = h
and_second false b h = absurd cc

-- a link goes from a router to a later one
pub record IsBetweenRouters (n : Network) (l : Link) : Type 0 where
  pub apart : l.low < l.high
  pub inside : l.high < length n.routers

between : {X : Type 0} (items : Router → List X) (joins : Place X → Place X → Bool) (n : Network) (l : Link) →
    ((p q : Place X) → joins p q ≡ true → nat_lt p.router q.router ≡ true) → IsJoining items joins n l → IsBetweenRouters n l
between items joins n l later at =
    let less : nat_lt at.low.router at.high.router ≡ true = later at.low at.high at.joined in
    let here : IsBetweenRouters n (link_between at.low at.high) =
    record { apart = grind (arith, nat_tests); inside = within_get n.routers at.high.router at.high.owner at.high_at.at } in
    subst (IsBetweenRouters n) at.is here

pub link_between_routers : (n : Network) (l : Link) → In (links_of n) l → IsBetweenRouters n l
unfolding links_of
link_between_routers n l h = elim (append_in (sessions_of n) (adjacencies_of n) l h) [
  | inl at ↦ between neighbors_of is_session n l (λ p q joined. and_first (nat_lt p.router q.router) (are_peers p q) joined) (session n l at)
  | inr at ↦ between interfaces_of are_adjacent n l (λ p q joined. and_first (nat_lt p.router q.router) (share_area_subnet p q) joined) (adjacency n l at)
]

-- ---- directions

abbrev pub direction_of : Hop → Direction
direction_of hop = record {
  link = hop.link;
  importer = hop.importer;
  exporter = hop.exporter;
  importer_item = hop.importer_item;
  exporter_item =
      hop.exporter_item;
}

abbrev pub hop_for : Direction → Hop
hop_for d = record { importer = d.importer; exporter = d.exporter; link = d.link; importer_item = d.importer_item; exporter_item = d.exporter_item }

-- both routers of a direction are routers of the network, and differ
pub record IsBetween (n : Network) (hop : Hop) : Type 0 where
  pub importer_in : hop.importer < length n.routers
  pub exporter_in : hop.exporter < length n.routers
  pub differ : hop.importer ≢ hop.exporter

pub is_between : (n : Network) (hop : Hop) → IsHopOf (links_of n) hop → IsBetween n hop
is_between n hop of =
    let at = link_between_routers n of.link (get_in (links_of n) hop.link of.link of.at) in
    let less = at.apart in
    let inside = at.inside in
    elim of.is [
      | inl low ↦ subst (IsBetween n) (sym low) (record { importer_in = omega arith; exporter_in = inside; differ = λ e. absurd (omega arith) })
      | inr high ↦ subst (IsBetween n) (sym high) (record { importer_in = inside; exporter_in = omega arith; differ = λ e. absurd (omega arith) })
    ]

pub is_direction : (n : Network) (hop : Hop) → IsHopOf (links_of n) hop → IsDirection n (direction_of hop)
is_direction n hop of = elim of.is [
  | inl low ↦ inl (of.at ∙ ap (λ (x : Hop). Some (low_imports (direction_of x))) (sym low))
  | inr high ↦ inr (of.at ∙ ap (λ (x : Hop). Some (high_imports (direction_of x))) (sym high))
]

pub direction_hop : (n : Network) (d : Direction) → IsDirection n d → In (hops_of (links_of n)) (hop_for d)
direction_hop n d (inl low) = low_hop (links_of n) d.link (low_imports d) low
direction_hop n d (inr high) = high_hop (links_of n) d.link (high_imports d) high

pub all_inside : (n : Network) → AreHopsInside (length n.routers) (hops_of (links_of n))
all_inside n = record {
  importers = all_from (λ (hop : Hop). hop.importer < length n.routers) (hops_of (links_of n))
      (λ hop at. (is_between n hop (hop_of (links_of n) hop at)).importer_in);
  exporters = all_from (λ (hop : Hop). hop.exporter < length n.routers) (hops_of (links_of n))
      (λ hop at. (is_between n hop (hop_of (links_of n) hop at)).exporter_in);
}

pub all_apart : (n : Network) → All (λ (link : Link). link.low < link.high) (links_of n)
all_apart n = all_from (λ (link : Link). link.low < link.high) (links_of n) (λ link at. (link_between_routers n link at).apart)

-- the directions of a network, sorted by their ends
abbrev pub sorted_of : Network → List Hop
sorted_of = directions_of

pub sorted_hop : (n : Network) (hop : Hop) → In (sorted_of n) hop → IsHopOf (links_of n) hop
sorted_hop n hop at = hop_of (links_of n) hop (sorted_in (length n.routers) (hops_of (links_of n)) hop at)

pub sorted_direction : (n : Network) (d : Direction) → IsDirection n d → In (sorted_of n) (hop_for d)
sorted_direction n d is =
    let at = direction_hop n d is in
    let inside = is_between n (hop_for d) (hop_of (links_of n) (hop_for d) at) in
    in_sorted (length n.routers) (hops_of (links_of n)) (hop_for d) at inside.importer_in inside.exporter_in

-- one router takes routes over a link in one direction
pub one_hop : (n : Network) (x y : Hop) → IsHopOf (links_of n) x → IsHopOf (links_of n) y → x.importer ≡ y.importer → x.link ≡ y.link → x ≡ y
one_hop n x y a b importer link =
    let at : slice_get (links_of n) x.link ≡ Some b.link = ap (slice_get (links_of n)) link ∙ b.at in
    let one : a.link ≡ b.link = (let both = sym a.at ∙ at in cc) in
    let apart = (link_between_routers n a.link (get_in (links_of n) x.link a.link a.at)).apart in
    elim a.is [
      | inl low ↦ elim b.is [
        | inl low' ↦ low ∙ ap (λ (k : ℕ). into_low (k, a.link)) link ∙ ap (λ (l : Link). into_low (y.link, l)) one ∙ sym low'
        | inr high' ↦ (let e : a.link.low ≡ x.importer = ap (λ (h : Hop). h.importer) (sym low) in let f : b.link.high ≡ y.importer =
            ap (λ (h : Hop). h.importer) (sym high') in let g = ap (λ (l : Link). l.high) one in absurd (omega arith))
      ]
      | inr high ↦ elim b.is [
        | inl low' ↦ (let e : a.link.high ≡ x.importer = ap (λ (h : Hop). h.importer) (sym high) in let f : b.link.low ≡ y.importer =
            ap (λ (h : Hop). h.importer) (sym low') in let g = ap (λ (l : Link). l.low) one in absurd (omega arith))
        | inr high' ↦ high ∙ ap (λ (k : ℕ). into_high (k, a.link)) link ∙ ap (λ (l : Link). into_high (y.link, l)) one ∙ sym high'
      ]
    ]
