-- In BGP the neighbours of the network of the groups are those of the links, and those of one link are peers.
use Rattle.std.proofs.Common.{◌≡◌, ◌≢◌, ℕ, ◌+◌, ◌-◌, ◌*◌, ◌<◌, Bool, true, false, not, ◌&&◌, ◌||◌, nat_eq, nat_lt, List, [], ◌∷◌, ◌++◌, map, Option, Some, None, inl, refl, sym, ◌∙◌, ap, arith}
use Rattle.std.specs.Prelude.{flat_map, filter, slice_get, if◌then◌else◌}
use Rattle.std.specs.Option.{option_map_or}
use Rattle.std.specs.List.{enumerate_from, range_with_len}
use Rattle.std.proofs.lemmas.Bool.Decides.{nat_tests}
use Rattle.base_kit.proofs.Elements.{In, in_map, in_right, in_filter_map, filter_in, enumerate_in, get_in}
use Rattle.base_kit.proofs.SetFacts.{same_number}
use Rattle.base_kit.specs.declared.protocol.Protocol.{Protocol}
use Rattle.base_kit.specs.declared.protocol.Protocol.TheVariants.{Bgp as OverBgp}
use Rattle.cfg_ast.specs.meaning.Addresses.{Address}
use Rattle.cfg_ast.specs.meaning.RouterFaults.{up_addresses_of}
use Rattle.cfg_ast.specs.meaning.Topology.{Place, place_on, places_on, places, neighbors_of, up_address, first_address, has_number, share_subnet, is_session, links_joining, sessions_of}
use Rattle.cfg_ast.specs.declared.bgp.BgpProcess.{BgpProcess}
use Rattle.cfg_ast.specs.declared.bgp.Neighbor.{Neighbor}
use Rattle.cfg_ast.specs.declared.topology.Link.{Link}
use Rattle.cfg_check.specs.Faultless.{IsFaultless}
use Rattle.abstract_net.specs.declared.qlink.QLink.{QLink}
use Rattle.srp_core.specs.Problem.{number}
use Rattle.srp_quotient.specs.Groups.{touches}
use Rattle.net_topology.proofs.Ends.{AreJoined, joined_if, share_if}
use Rattle.net_topology.proofs.OneAddress.{one_address}
use Rattle.config_emit.specs.Plan.{Plan, small}
use Rattle.config_emit.specs.Maps.{other_end}
use Rattle.config_emit.specs.Interfaces.{class_interfaces, is_at, links_at, side_number, link_address, link_interface, link_interfaces}
use Rattle.config_emit.specs.Emitted.{neighbor_at, process_of, written_bgp, emitted_router, emitted}
use Rattle.emit_link_laws.specs.Laws.{first_item, links_before, emitted_link}
use Rattle.emit_link_laws.proofs.EmittedPlaces.{router_at, group_places, in_numbered, link_in, inside_count}
use Rattle.emit_link_laws.proofs.OspfSpots.{even_address, side_small}
use Rattle.emit_link_laws.proofs.PairedLinks.{ArePaired, AreBetween, flat_map_same, links_by_spots}

-- ---- tests

both : (a b : Bool) → (a && b) ≡ true → (a ≡ true) × (b ≡ true)
both true true e = (refl, refl)
both true false e = absurd cc
both false b e = absurd cc

both_true : (a b : Bool) → a ≡ true → b ≡ true → (a && b) ≡ true
both_true a b p q = rw (p, q) refl

same_truth : (a b : Bool) → (a ≡ true → b ≡ true) → (b ≡ true → a ≡ true) → a ≡ b
same_truth true true there back = refl
same_truth true false there back = sym (there refl)
same_truth false true there back = back refl
same_truth false false there back = refl

one_number : (m n : ℕ) → nat_eq m n ≡ true → m ≡ n
one_number m n e = grind (arith, nat_tests)

less_number : (m n : ℕ) → nat_lt m n ≡ true → m < n
less_number m n e = grind (arith, nat_tests)

differ : (m n : ℕ) → m < n → nat_eq m n ≡ false
differ m n less = grind (arith, nat_tests)

-- ---- the ends of a link

-- a group at a link: its side, the other end and the side of that
record IsSide (g : ℕ) (l : QLink) : Type 0 where
  other_touches : touches (other_end g l) l ≡ true
  sides : side_number (other_end g l) l ≡ 1 - side_number g l

sides_at : (g low high : ℕ) (b c : Bool) → nat_eq low g ≡ b → nat_eq high g ≡ c → low < high → (b || c) ≡ true
    → ((nat_eq low (if b then high else low) || nat_eq high (if b then high else low)) ≡ true)
    × ((if nat_eq low (if b then high else low) then 0 else 1) ≡ 1 - (if b then 0 else 1))
sides_at g low high true c is_b is_c less touching =
    let ne : nat_eq low high ≡ false = grind (arith, nat_tests) in
    (ap (λ (d : Bool). nat_eq low high || d) (same_number high high refl) ∙ always (nat_eq low high), ap (λ (d : Bool). if d then 0 else 1) ne)
  where
    always : (b : Bool) → (b || true) ≡ true
    always true = refl
    always false = refl
sides_at g low high false c is_b is_c less touching =
    (ap (λ (d : Bool). d || nat_eq high low) (same_number low low refl), ap (λ (d : Bool). if d then 0 else 1) (same_number low low refl))

side_of_link : (g : ℕ) (l : QLink) → l.low < l.high → touches g l ≡ true → IsSide g l
side_of_link g l less touching = let r = sides_at g l.low l.high (nat_eq l.low g) (nat_eq l.high g) refl refl less touching in
    record { other_touches = r.0; sides = r.1 }

-- of two groups of one link the lesser is its low end
record AreEnds (g h : ℕ) (l : QLink) : Type 0 where
  low : l.low ≡ g
  high : l.high ≡ h

ends_of : (g h : ℕ) (l : QLink) → l.low < l.high → touches g l ≡ true → touches h l ≡ true → g < h → AreEnds g h l
ends_of g h l less touch_g touch_h before =
    record { low = low_end g h l.low l.high less touch_g touch_h before; high = high_end g h l.low l.high less touch_g touch_h before }
  where
    low_end : (g h low high : ℕ) → low < high → (nat_eq low g || nat_eq high g) ≡ true → (nat_eq low h || nat_eq high h) ≡ true → g < h → low ≡ g
    low_end g h low high less touch_g touch_h before = grind (arith, nat_tests)

    high_end : (g h low high : ℕ) → low < high → (nat_eq low g || nat_eq high g) ≡ true → (nat_eq low h || nat_eq high h) ≡ true → g < h → high ≡ h
    high_end g h low high less touch_g touch_h before = grind (arith, nat_tests)

other_low : (g h : ℕ) (l : QLink) → AreEnds g h l → other_end g l ≡ h
other_low g h l ends = ap (λ (b : Bool). if b then l.high else l.low) (same_number l.low g ends.low) ∙ ends.high

other_high : (g h : ℕ) (l : QLink) → AreEnds g h l → g < h → other_end h l ≡ g
other_high g h l ends before = ap (λ (b : Bool). if b then l.high else l.low) (differ l.low h (let low = ends.low in omega arith)) ∙ ends.low

low_side : (g h : ℕ) (l : QLink) → AreEnds g h l → side_number g l ≡ 0
low_side g h l ends = ap (λ (b : Bool). if b then 0 else 1) (same_number l.low g ends.low)

high_side : (g h : ℕ) (l : QLink) → AreEnds g h l → g < h → side_number h l ≡ 1
high_side g h l ends before = ap (λ (b : Bool). if b then 0 else 1) (differ l.low h (let low = ends.low in omega arith))

-- ---- the address of a link on its router

pub address_in : (e : Plan) (g t : ℕ) (l : QLink) → slice_get e.links t ≡ Some l → touches g l ≡ true →
    In (up_addresses_of (emitted_router e g)) (link_address t (side_number g l))
unfolding link_interfaces
address_in e g t l at touching =
    let numbered = in_numbered 1 (links_at e g) (t, l) (link_in e g t l at touching) in
    let x = link_interface e g (numbered.0, (t, l)) in
    let has = in_right (class_interfaces e g) (link_interfaces e g) x
    (in_map (link_interface e g) (enumerate_from 1 (links_at e g)) (numbered.0, (t, l)) numbered.1) in
    in_filter_map up_address (class_interfaces e g ++ link_interfaces e g) x (link_address t (side_number g l)) has refl

-- ---- neighbours

abbrev bgp_place : Plan → ℕ → ℕ × (ℕ × QLink) → Place Neighbor
bgp_place e g p = place_on g (emitted_router e g) (p.0, neighbor_at e g p.1)

places_of_links : (e : Plan) (g i : ℕ) (ys : List (ℕ × QLink)) →
    map (place_on g (emitted_router e g)) (enumerate_from i (map (neighbor_at e g) ys)) ≡ map (bgp_place e g) (enumerate_from i ys)
places_of_links e g i [] = refl
places_of_links e g i (y ∷ ys) = ap (λ (ps : List (Place Neighbor)). bgp_place e g (i, y) ∷ ps) (places_of_links e g (i + 1) ys)

-- each group with a link has an AS number
abbrev pub HasNumbers : Plan → Type 0
HasNumbers e = (g : ℕ) (l : QLink) → In e.links l → touches g l ≡ true → number (small e) g ≢ 0

nothing_at : (ys : List (ℕ × QLink)) → ((y : ℕ × QLink) → In ys y → ⊥) → ys ≡ []
nothing_at [] none = refl
nothing_at (y ∷ ys) none = absurd (none y (inl refl))

module _ (e : Plan) (over : e.problem.protocol ≡ OverBgp) (numbers : HasNumbers e) (between : AreBetween e.links e.count) where
  bgp_is : (g : ℕ) → (emitted_router e g).bgp ≡ (if nat_eq (number (small e) g) 0 then None else Some (process_of e g))
  bgp_is g = ap (λ (q : Protocol). written_bgp q e g) over

  places_if : (g : ℕ) (b : Bool) → nat_eq (number (small e) g) 0 ≡ b →
      places_on neighbors_of (g, emitted_router e g) ≡ map (bgp_place e g) (enumerate_from 0 (links_at e g))
  unfolding links_at
  places_if g true none =
      let bgp : (emitted_router e g).bgp ≡ None = bgp_is g ∙ ap (λ (b : Bool). if b then None else Some (process_of e g)) none in
      let empty : links_at e g ≡ [] = nothing_at (links_at e g) (λ y at.
      let from = filter_in (is_at g) (enumerate_from 0 e.links) y at in
      let place = enumerate_in e.links 0 y.0 y.1 from.0 in
      numbers g y.1 (get_in e.links place.0 y.1 place.2) from.1 (one_number (number (small e) g) 0 none)) in
      ap (λ (o : Option BgpProcess). map (place_on g (emitted_router e g))
      (enumerate_from 0 (option_map_or (λ (process : BgpProcess). process.neighbors) o []))) bgp
      ∙ ap (λ (ys : List (ℕ × QLink)). map (bgp_place e g) (enumerate_from 0 ys)) (sym empty)
  places_if g false some =
      let bgp : (emitted_router e g).bgp ≡ Some (process_of e g) = bgp_is g ∙ ap (λ (b : Bool). if b then None else Some (process_of e g)) some in
      ap (λ (o : Option BgpProcess). map (place_on g (emitted_router e g))
      (enumerate_from 0 (option_map_or (λ (process : BgpProcess). process.neighbors) o []))) bgp
      ∙ places_of_links e g 0 (links_at e g)

  abbrev no_base : ℕ → ℕ
  no_base g = 0

  places_emitted : places neighbors_of (emitted e) ≡ flat_map
      (λ g. map (bgp_place e g) (enumerate_from (no_base g) (filter (is_at g) (enumerate_from 0 e.links)))) (range_with_len 0 e.count)
  unfolding links_at
  places_emitted =
      group_places neighbors_of e
      ∙ flat_map_same (λ g. places_on neighbors_of (g, emitted_router e g)) (λ g. map (bgp_place e g) (enumerate_from 0 (links_at e g)))
      (range_with_len 0 e.count) (λ g at. places_if g (nat_eq (number (small e) g) 0) refl)

  -- ---- AS numbers

  number_is : (g t : ℕ) (l : QLink) (n : ℕ) → slice_get e.links t ≡ Some l → touches g l ≡ true →
      has_number (emitted_router e g) n ≡ nat_eq (number (small e) g) n
  number_is g t l n at touching =
      let some = numbers g l (get_in e.links t l at) touching in
      let known : nat_eq (number (small e) g) 0 ≡ false = not_none (number (small e) g) some in
      ap (λ (o : Option BgpProcess). option_map_or (λ (process : BgpProcess). nat_eq process.number n) o false)
      (bgp_is g ∙ ap (λ (b : Bool). if b then None else Some (process_of e g)) known)
    where
      not_none : (m : ℕ) → m ≢ 0 → nat_eq m 0 ≡ false
      not_none m some = grind (arith, nat_tests)

  -- ---- pairs

  abbrev named_by : ℕ → ℕ → QLink → ℕ
  named_by g t l = (link_address t (1 - side_number g l)).addr

  abbrev shared : ℕ → ℕ → ℕ → ℕ → QLink → QLink → Bool
  shared g h t u l m = share_subnet (emitted_router e g) (named_by h u m) (emitted_router e h) (named_by g t l)

  abbrev session : ℕ → ℕ → ℕ → ℕ → QLink → QLink → Bool
  session g h t u l m =
      nat_lt g h && (not (nat_eq g h) && (has_number (emitted_router e h) (number (small e) (other_end g l))
      && (has_number (emitted_router e g) (number (small e) (other_end h m)) && shared g h t u l m)))

  -- an interface with the address that a group names at a link is that of the other end
  end_named : (h g u : ℕ) (m : QLink) (a : Address) → IsFaultless (emitted e) → slice_get e.links u ≡ Some m → touches h m ≡ true → g < e.count →
      In (up_addresses_of (emitted_router e g)) a → a.addr ≡ named_by h u m → first_address a ≡ 1681915904 + 2 * u
  end_named h g u m a faultless at touching inside a_in named =
      let side = side_of_link h m (between.low m (get_in e.links u m at)) touching in
      let o = other_end h m in
      let b = link_address u (side_number o m) in
      let one = one_address (emitted e) faultless g o (emitted_router e g) (emitted_router e o) a b (router_at e g inside)
      (router_at e o (inside_count e o u m between at side.other_touches)) a_in (address_in e o u m at side.other_touches)
      (named ∙ ap (λ s. 1681915904 + 2 * u + s) (sym side.sides)) in
      one.first ∙ even_address u (side_number o m) (side_small o m)

  met : (g h t u : ℕ) (l m : QLink) → IsFaultless (emitted e) → slice_get e.links t ≡ Some l → slice_get e.links u ≡ Some m → touches g l ≡ true →
      touches h m ≡ true → session g h t u l m ≡ true → (nat_eq t u && nat_lt g h) ≡ true
  met g h t u l m faultless at_l at_m touch_g touch_h is =
      let a = both (nat_lt g h) (not (nat_eq g h)
      && (has_number (emitted_router e h) (number (small e) (other_end g l))
      && (has_number (emitted_router e g) (number (small e) (other_end h m)) && shared g h t u l m))) is in
      let b = both (not (nat_eq g h)) (has_number (emitted_router e h) (number (small e) (other_end g l))
      && (has_number (emitted_router e g) (number (small e) (other_end h m)) && shared g h t u l m)) a.1 in
      let c = both (has_number (emitted_router e h) (number (small e) (other_end g l))) (has_number (emitted_router e g) (number (small e) (other_end h m))
      && shared g h t u l m) b.1 in
      let d = both (has_number (emitted_router e g) (number (small e) (other_end h m))) (shared g h t u l m) c.1 in
      let joined = joined_if (emitted_router e g) (emitted_router e h) (named_by h u m) (named_by g t l) d.1 in
      let near = end_named h g u m joined.near faultless at_m touch_h (inside_count e g t l between at_l touch_g) joined.near_in joined.near_addr in
      let far = end_named g h t l joined.far faultless at_l touch_g (inside_count e h u m between at_m touch_h) joined.far_in joined.far_addr in
      let subnet = both (nat_eq joined.near.len joined.far.len) (nat_eq (first_address joined.near) (first_address joined.far)) joined.joined in
      let firsts = one_number (first_address joined.near) (first_address joined.far) subnet.1 in
      let same : t ≡ u = half t u 1681915904 (sym far ∙ sym firsts ∙ near) in
      both_true (nat_eq t u) (nat_lt g h) (same_number t u same) a.0
    where
      half : (t u base : ℕ) → base + 2 * t ≡ base + 2 * u → t ≡ u
      half t u base e = omega arith

  facing : (g h t : ℕ) (l : QLink) → slice_get e.links t ≡ Some l → touches g l ≡ true → touches h l ≡ true → g < h → nat_lt g h ≡ true →
      session g h t t l l ≡ true
  facing g h t l at touch_g touch_h before is_before =
      let ends = ends_of g h l (between.low l (get_in e.links t l at)) touch_g touch_h before in
      let low = low_side g h l ends in
      let high = high_side g h l ends before in
      let near = link_address t (side_number g l) in
      let far = link_address t (side_number h l) in
      let firsts : first_address near ≡ first_address far = even_address t (side_number g l) (side_small g l)
      ∙ sym (even_address t (side_number h l) (side_small h l)) in
      let joined : AreJoined (emitted_router e g) (emitted_router e h) (named_by h t l) (named_by g t l) = record {
        near = near;
        far = far;
        near_in = address_in e g t l at touch_g;
        far_in = address_in e h t l at touch_h;
        near_addr = (omega arith);
        far_addr = (omega arith);
        joined = both_true (nat_eq near.len far.len) (nat_eq (first_address near) (first_address far)) (same_number near.len far.len refl)
            (same_number (first_address near) (first_address far) firsts);
      } in
      let share = share_if (emitted_router e g) (emitted_router e h) (named_by h t l) (named_by g t l) joined in
      let first = number_is h t l (number (small e) (other_end g l)) at touch_h
      ∙ same_number (number (small e) h) (number (small e) (other_end g l)) (sym (ap (number (small e)) (other_low g h l ends))) in
      let second = number_is g t l (number (small e) (other_end h l)) at touch_g
      ∙ same_number (number (small e) g) (number (small e) (other_end h l)) (sym (ap (number (small e)) (other_high g h l ends before))) in
      both_true (nat_lt g h) (not (nat_eq g h)
      && (has_number (emitted_router e h) (number (small e) (other_end g l))
      && (has_number (emitted_router e g) (number (small e) (other_end h l)) && shared g h t t l l))) is_before
      (both_true (not (nat_eq g h)) (has_number (emitted_router e h) (number (small e) (other_end g l))
      && (has_number (emitted_router e g) (number (small e) (other_end h l)) && shared g h t t l l)) (ap not (differ g h before))
      (both_true (has_number (emitted_router e h) (number (small e) (other_end g l))) (has_number (emitted_router e g) (number (small e) (other_end h l))
      && shared g h t t l l) first
      (both_true (has_number (emitted_router e g) (number (small e) (other_end h l))) (shared g h t t l l) second share)))

  one_link : (t u : ℕ) (l m : QLink) → slice_get e.links t ≡ Some l → slice_get e.links u ≡ Some m → t ≡ u → l ≡ m
  one_link t u l m at_l at_m same = let at : slice_get e.links t ≡ Some m = ap (slice_get e.links) same ∙ at_m in cc

  facing_at : (g h t u : ℕ) (l m : QLink) → slice_get e.links t ≡ Some l → slice_get e.links u ≡ Some m → touches g l ≡ true → touches h m ≡ true →
      (nat_eq t u && nat_lt g h) ≡ true → session g h t u l m ≡ true
  facing_at g h t u l m at_l at_m touch_g touch_h is =
      let parts = both (nat_eq t u) (nat_lt g h) is in
      let same : t ≡ u = one_number t u parts.0 in
      let links : l ≡ m = one_link t u l m at_l at_m same in
      let here = facing g h t l at_l touch_g (ap (touches h) links ∙ touch_h) (less_number g h parts.1) parts.1 in
      ap (λ k. session g h t k l m) (sym same) ∙ ap (λ x. session g h t t l x) (sym links) ∙ here

  paired : IsFaultless (emitted e) → ArePaired e.links (bgp_place e) is_session
  paired faultless = record {
    same = λ g h i j t u l m at_l at_m touch_g touch_h. same_truth (session g h t u l m) (nat_eq t u && nat_lt g h)
        (met g h t u l m faultless at_l at_m touch_g touch_h) (facing_at g h t u l m at_l at_m touch_g touch_h);
  }

  pub bgp_sessions : IsFaultless (emitted e) → sessions_of (emitted e) ≡ map (emitted_link e) (enumerate_from 0 e.links)
  unfolding sessions_of
  bgp_sessions faultless =
      ap (links_joining is_session) places_emitted
      ∙ links_by_spots e.links e.count no_base (bgp_place e) is_session (paired faultless) between
      ∙ ap (λ (q : Protocol). map {B = Link} (λ (p : ℕ × QLink).
      record {
        low = p.1.low;
        high = p.1.high;
        low_item = first_item q e p.1.low + links_before e.links p.1.low p.0;
        high_item =
            first_item q e p.1.high + links_before e.links p.1.high p.0;
      }) (enumerate_from 0 e.links)) (sym over)
