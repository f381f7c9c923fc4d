-- In OSPF the active interfaces of the network of the groups are those of the links.
use Rattle.std.proofs.Common.{◌≡◌, ℕ, ◌+◌, ◌-◌, ◌*◌, ◌<◌, Bool, true, false, cond, not, ◌&&◌, nat_eq, nat_lt, List, [], ◌∷◌, ◌++◌, map, length, Option, Some, None, inl, inr, refl, sym, ◌∙◌, ap, arith}
use Rattle.std.specs.Prelude.{flat_map, filter, filter_map, slice_get, bytes_eq, bit_or, codes, decimal, is_some, if◌then◌else◌}
use Rattle.std.specs.Option.{option_map, option_map_or}
use Rattle.std.specs.List.{enumerate_from, range_with_len}
use Rattle.std.proofs.lemmas.Bool.Decides.{nat_tests}
use Rattle.std.proofs.lemmas.List.{map-append}
use Rattle.std.proofs.lemmas.List.Elements.{filter-append}
use Rattle.base_kit.proofs.Elements.{In, in_map, map_in, in_left, in_right, in_filter_map, filter_map_in}
use Rattle.base_kit.proofs.SetFacts.{same_number}
use Rattle.base_kit.specs.Prefixes.{Prefix}
use Rattle.base_kit.specs.declared.protocol.Protocol.{Protocol}
use Rattle.base_kit.specs.declared.protocol.Protocol.TheVariants.{Ospf as OverOspf}
use Rattle.cfg_ast.specs.meaning.Addresses.{Address}
use Rattle.cfg_ast.specs.meaning.Classes.{initial_route}
use Rattle.cfg_ast.specs.meaning.Topology.{Place, place_on, places_on, places, interfaces_of, links_joining, first_address, line_has_address, process_has_address, is_in_area_interface, is_passive_in, is_active_interface, up_address, active_address, both_in_one_subnet, share_area_subnet, are_adjacent, adjacencies_of}
use Rattle.cfg_ast.specs.declared.interface.Interface.{Interface}
use Rattle.cfg_ast.specs.declared.network.Router.{Router}
use Rattle.cfg_ast.specs.declared.topology.Link.{Link}
use Rattle.cfg_ast.specs.declared.ospf.AreaLine.{AreaLine}
use Rattle.cfg_ast.specs.declared.ospf.OspfProcess.{OspfProcess}
use Rattle.abstract_net.specs.declared.qlink.QLink.{QLink}
use Rattle.srp_quotient.specs.Groups.{touches}
use Rattle.config_emit.specs.Plan.{Plan, first_router_of}
use Rattle.config_emit.specs.Interfaces.{interface_in, class_interface, class_interface_in, class_interfaces_on, class_interfaces, is_at, links_at, side_number, link_address, link_interface, link_interfaces}
use Rattle.config_emit.specs.Emitted.{host_area_line, area_number, interface_name, ospf_on, ospf_of, emitted_router, emitted}
use Rattle.emit_form_laws.proofs.Groups.{any_in}
use Rattle.emit_link_laws.specs.Laws.{first_item, links_before, emitted_link}
use Rattle.emit_link_laws.proofs.EmittedPlaces.{enumerate_append, none_of, group_places, in_numbered, link_in, links_of_some}
use Rattle.emit_link_laws.proofs.PairedLinks.{ArePaired, AreBetween, filter_flat, flat_map_same, links_by_spots}

-- ---- the names of interfaces

record HasClassName (x : Interface) : Type 0 where
  number : ℕ
  named : x.name ≡ codes "Vlan" ++ decimal number

class_name_if : (q : Protocol) (r : Router) (j : ℕ) (p : Prefix) (b : Bool) (o : Option Interface) (x : Interface) →
    cond b (option_map (class_interface q j) o) None ≡ Some x → HasClassName x
class_name_if q r j p true (Some y) x e = let same : class_interface q j y ≡ x = cc in record { number = j; named = sym (ap (λ (z : Interface). z.name) same) }
class_name_if q r j p true None x e = cc
class_name_if q r j p false o x e = cc

class_name_on : (q : Protocol) (prefixes : List Prefix) (o : Option Router) (x : Interface) → In (option_map_or (class_interfaces_on q prefixes) o []) x →
    HasClassName x
class_name_on q prefixes None x at = absurd at
class_name_on q prefixes (Some r) x at =
    let made = filter_map_in (class_interface_in q r) (enumerate_from 1 prefixes) x at in
    class_name_if q r made.0.0 made.0.1 (is_some (initial_route r made.0.1)) (interface_in q r made.0.1) x made.2

class_name : (e : Plan) (g : ℕ) (x : Interface) → In (class_interfaces e g) x → HasClassName x
unfolding class_interfaces
class_name e g x at = class_name_on e.problem.protocol e.class.prefixes (first_router_of e g) x at

other_names : (j k : ℕ) → bytes_eq (codes "Vlan" ++ decimal j) (codes "GigabitEthernet0/" ++ decimal k) ≡ false
other_names j k = refl

equal_bytes : (xs : List ℕ) → bytes_eq xs xs ≡ true
equal_bytes [] = refl
equal_bytes (x ∷ xs) = rw (same_number x x refl) (equal_bytes xs)

-- ---- the process of a group

abbrev process_with : ℕ → List Interface → List Interface → OspfProcess
process_with area class all = record {
  number = 1;
  line = 0;
  passive_default = false;
  passive = map interface_name class;
  not_passive = [];
  areas =
      filter_map (host_area_line area) all;
}

has_process : (area : ℕ) (class all : List Interface) (x : Interface) → In all x → ospf_on area class all ≡ Some (process_with area class all)
has_process area class [] x at = absurd at
has_process area class (y ∷ ys) x at = refl

-- an interface whose address stands in a `network` line, as that of some interface
in_area : (r : Router) (area : ℕ) (class all : List Interface) (x y : Interface) (a : Address) → r.ospf ≡ Some (process_with area class all) → In all y →
    y.address ≡ Some a → x.address ≡ Some a → x.shut ≡ false → is_in_area_interface r x ≡ true
in_area r area class all x y a process at listed address up =
    let line : AreaLine = record { addr = a.addr; wild = 0; area = area; line = 0 } in
    let has = in_filter_map (host_area_line area) all y line at
    (ap (option_map (λ (b : Address). record { addr = b.addr; wild = 0; area = area; line = 0 })) listed) in
    let is_up : up_address x ≡ Some a = ap (λ (b : Bool). cond b None x.address) up ∙ address in
    ap (λ (o : Option Address). option_map_or (process_has_address r.ospf) o false) is_up
    ∙ ap (λ (o : Option OspfProcess). process_has_address o a) process
    ∙ any_in (λ (l : AreaLine). line_has_address l a.addr) (filter_map (host_area_line area) all) line has
    (same_number (bit_or a.addr 0) (bit_or a.addr 0) refl)

passive : (r : Router) (area : ℕ) (class all : List Interface) (x : Interface) → r.ospf ≡ Some (process_with area class all) → In class x →
    is_active_interface r x ≡ false
passive r area class all x process at =
    ap (λ (o : Option OspfProcess). is_in_area_interface r x && not (is_passive_in o x.name)) process
    ∙ ap (λ (b : Bool). is_in_area_interface r x && not b)
    (any_in (λ other. bytes_eq other x.name) (map interface_name class) x.name (in_map interface_name class x at) (equal_bytes x.name))
    ∙ never (is_in_area_interface r x)
  where
    never : (b : Bool) → (b && false) ≡ false
    never true = refl
    never false = refl

-- ---- addresses of links

pub even_address : (t side : ℕ) → side < 2 → first_address (link_address t side) ≡ 1681915904 + 2 * t
even_address t side less = omega arith

pub side_small : (g : ℕ) (l : QLink) → side_number g l < 2
side_small g l = by (nat_eq l.low g)
  where
    by : (b : Bool) → (if b then 0 else 1) < 2
    by true = omega arith
    by false = omega arith

-- ---- active places

abbrev is_active_place : Place Interface → Bool
is_active_place p = is_active_interface p.owner p.value

both_some : (o u : Option Address) → both_in_one_subnet o u ≡ true → (is_some o ≡ true) × (is_some u ≡ true)
both_some (Some a) (Some b) h = (refl, refl)
both_some (Some a) None h = absurd cc
both_some None u h = absurd cc

picked : (b : Bool) (o : Option Address) → is_some (cond b o None) ≡ true → b ≡ true
picked true o h = refl
picked false o h = absurd cc

and_second : (a b : Bool) → (a && b) ≡ true → b ≡ true
and_second true b e = e
and_second false b e = absurd cc

only_active : (p q : Place Interface) → are_adjacent p q ≡ true → (is_active_place p ≡ true) × (is_active_place q ≡ true)
only_active p q joined =
    let both = both_some (active_address p) (active_address q) (and_second (nat_lt p.router q.router) (share_area_subnet p q) joined) in
    (picked (is_active_place p) p.value.address both.0, picked (is_active_place q) q.value.address both.1)

none_active : (g i : ℕ) (r : Router) (xs : List Interface) → ((x : Interface) → In xs x → is_active_interface r x ≡ false) →
    filter is_active_place (map (place_on g r) (enumerate_from i xs)) ≡ []
none_active g i r [] none = refl
none_active g i r (x ∷ xs) none =
    let rest = filter is_active_place (map (place_on g r) (enumerate_from (i + 1) xs)) in
    ap (λ (b : Bool). cond b (place_on g r (i, x) ∷ rest) rest) (none x (inl refl)) ∙ none_active g (i + 1) r xs (λ y at. none y (inr at))

all_active : (g i : ℕ) (r : Router) (xs : List Interface) → ((x : Interface) → In xs x → is_active_interface r x ≡ true) →
    filter is_active_place (map (place_on g r) (enumerate_from i xs)) ≡ map (place_on g r) (enumerate_from i xs)
all_active g i r [] all = refl
all_active g i r (x ∷ xs) all =
    let rest = filter is_active_place (map (place_on g r) (enumerate_from (i + 1) xs)) in
    ap (λ (b : Bool). cond b (place_on g r (i, x) ∷ rest) rest) (all x (inl refl))
    ∙ ap (λ (ps : List (Place Interface)). place_on g r (i, x) ∷ ps) (all_active g (i + 1) r xs (λ y at. all y (inr at)))

-- the place of a link's interface behind `c` others
abbrev ospf_place : Plan → (ℕ → ℕ) → ℕ → ℕ × (ℕ × QLink) → Place Interface
ospf_place e class_count g p = place_on g (emitted_router e g) (p.0, link_interface e g (p.0 + 1 - class_count g, p.1))

places_of_links : (e : Plan) (class_count : ℕ → ℕ) (g i k : ℕ) (ys : List (ℕ × QLink)) → k + class_count g ≡ i + 1
    → map (place_on g (emitted_router e g)) (enumerate_from i (map (link_interface e g) (enumerate_from k ys))) ≡ map (ospf_place e class_count g)
    (enumerate_from i ys)
places_of_links e class_count g i k [] same = refl
places_of_links e class_count g i k (y ∷ ys) same =
    let number : k ≡ i + 1 - class_count g = omega arith in
    ap (λ (n : ℕ). place_on g (emitted_router e g) (i, link_interface e g (n, y)) ∷ map (place_on g (emitted_router e g))
    (enumerate_from (i + 1) (map (link_interface e g) (enumerate_from (k + 1) ys)))) number
    ∙ ap (λ (ps : List (Place Interface)). ospf_place e class_count g (i, y) ∷ ps) (places_of_links e class_count g (i + 1) (k + 1) ys (omega arith))

-- interfaces are in one subnet where they are of one link
of_one_link : (base t u g h : ℕ) → (nat_lt g h && (nat_eq 31 31 && nat_eq (base + 2 * t) (base + 2 * u))) ≡ (nat_eq t u && nat_lt g h)
of_one_link base t u g h = grind (arith, nat_tests)

module _ (e : Plan) (over : e.problem.protocol ≡ OverOspf) where
  process_at : (g : ℕ) (x : Interface) → In (class_interfaces e g ++ link_interfaces e g) x →
      (emitted_router e g).ospf ≡ Some (process_with (area_number e) (class_interfaces e g) (class_interfaces e g ++ link_interfaces e g))
  process_at g x at = ap (λ (q : Protocol). ospf_of q e g) over
      ∙ has_process (area_number e) (class_interfaces e g) (class_interfaces e g ++ link_interfaces e g) x at

  class_passive : (g : ℕ) (x : Interface) → In (class_interfaces e g) x → is_active_interface (emitted_router e g) x ≡ false
  class_passive g x at = passive (emitted_router e g) (area_number e) (class_interfaces e g) (class_interfaces e g ++ link_interfaces e g) x
      (process_at g x (in_left (class_interfaces e g) (link_interfaces e g) x at)) at

  -- an interface with the address of one of a link, under the name of one
  named_active : (g k : ℕ) (x y : Interface) (a : Address) → In (link_interfaces e g) y → y.address ≡ Some a → x.name ≡ codes "GigabitEthernet0/" ++ decimal k
      → x.address ≡ Some a → x.shut ≡ false → is_active_interface (emitted_router e g) x ≡ true
  named_active g k x y a at listed named address up =
      let inside = in_right (class_interfaces e g) (link_interfaces e g) y at in
      let process = process_at g y inside in
      let not_passive = none_of (λ other. bytes_eq other x.name) (map interface_name (class_interfaces e g))
      (λ name among.
      let from = map_in interface_name (class_interfaces e g) name among in
      let class = class_name e g from.0 from.1 in
      ap (λ n. bytes_eq n x.name) (sym from.2 ∙ class.named) ∙ ap (bytes_eq (codes "Vlan" ++ decimal class.number)) named ∙ other_names class.number k) in
      ap (λ (b : Bool). b && not (is_passive_in (emitted_router e g).ospf x.name))
      (in_area (emitted_router e g) (area_number e) (class_interfaces e g) (class_interfaces e g ++ link_interfaces e g) x y a process inside listed address
      up)
      ∙ ap (λ (o : Option OspfProcess). not (is_passive_in o x.name)) process
      ∙ ap not not_passive

  links_active : (g : ℕ) (x : Interface) → In (link_interfaces e g) x → is_active_interface (emitted_router e g) x ≡ true
  unfolding link_interfaces
  links_active g x at =
      let made = map_in (link_interface e g) (enumerate_from 1 (links_at e g)) x at in
      let address = sym (ap (λ (y : Interface). y.address) made.2) in
      named_active g made.0.0 x x (link_address made.0.1.0 (side_number g made.0.1.1)) at address (sym (ap (λ (y : Interface). y.name) made.2)) address
      (sym (ap (λ (y : Interface). y.shut) made.2))

  link_active : (g k t : ℕ) (l : QLink) → slice_get e.links t ≡ Some l → touches g l ≡ true →
      is_active_interface (emitted_router e g) (link_interface e g (k, (t, l))) ≡ true
  unfolding link_interfaces
  link_active g k t l at touching =
      let numbered = in_numbered 1 (links_at e g) (t, l) (link_in e g t l at touching) in
      let y = link_interface e g (numbered.0, (t, l)) in
      named_active g k (link_interface e g (k, (t, l))) y (link_address t (side_number g l))
      (in_map (link_interface e g) (enumerate_from 1 (links_at e g)) (numbered.0, (t, l)) numbered.1) refl refl refl refl

  abbrev class_count : ℕ → ℕ
  class_count g = length (class_interfaces e g)

  active_of_group : (g : ℕ) → filter is_active_place (places_on interfaces_of (g, emitted_router e g)) ≡ map (ospf_place e class_count g)
      (enumerate_from (class_count g) (links_at e g))
  unfolding link_interfaces
  active_of_group g =
      let r = emitted_router e g in
      let class = class_interfaces e g in
      let links = link_interfaces e g in
      ap (λ (xs : List (ℕ × Interface)). filter is_active_place (map (place_on g r) xs)) (enumerate_append 0 class links)
      ∙ ap (filter is_active_place) (map-append (place_on g r) (enumerate_from 0 class) (enumerate_from (0 + length class) links))
      ∙ filter-append is_active_place (map (place_on g r) (enumerate_from 0 class)) (map (place_on g r) (enumerate_from (0 + length class) links))
      ∙ ap (λ (ps : List (Place Interface)). ps ++ filter is_active_place (map (place_on g r) (enumerate_from (0 + length class) links)))
      (none_active g 0 r class (class_passive g))
      ∙ ap (λ (k : ℕ). filter is_active_place (map (place_on g r) (enumerate_from k links))) (let s : 0 + length class ≡ length class = omega arith in s)
      ∙ all_active g (length class) r links (links_active g)
      ∙ places_of_links e class_count g (length class) 1 (links_at e g) (omega arith)

  active_places : filter is_active_place (places interfaces_of (emitted e)) ≡ flat_map
      (λ g. map (ospf_place e class_count g) (enumerate_from (class_count g) (filter (is_at g) (enumerate_from 0 e.links)))) (range_with_len 0 e.count)
  unfolding links_at
  active_places =
      ap (filter is_active_place) (group_places interfaces_of e)
      ∙ filter_flat is_active_place (λ g. places_on interfaces_of (g, emitted_router e g)) (range_with_len 0 e.count)
      ∙ flat_map_same (λ g. filter is_active_place (places_on interfaces_of (g, emitted_router e g)))
      (λ g. map (ospf_place e class_count g) (enumerate_from (class_count g) (links_at e g))) (range_with_len 0 e.count) (λ g at. active_of_group g)

  pair : (g h i j t u : ℕ) (l m : QLink) → slice_get e.links t ≡ Some l → slice_get e.links u ≡ Some m → touches g l ≡ true → touches h m ≡ true →
      are_adjacent (ospf_place e class_count g (i, (t, l))) (ospf_place e class_count h (j, (u, m))) ≡ (nat_eq t u && nat_lt g h)
  pair g h i j t u l m at_l at_m touch_g touch_h =
      let a = link_address t (side_number g l) in
      let b = link_address u (side_number h m) in
      ap (λ (c : Bool). nat_lt g h && both_in_one_subnet (cond c (Some a) None) (active_address (ospf_place e class_count h (j, (u, m)))))
      (link_active g (i + 1 - class_count g) t l at_l touch_g)
      ∙ ap (λ (c : Bool). nat_lt g h && both_in_one_subnet (Some a) (cond c (Some b) None)) (link_active h (j + 1 - class_count h) u m at_m touch_h)
      ∙ ap (λ (f : ℕ). nat_lt g h && (nat_eq 31 31 && nat_eq f (first_address b))) (even_address t (side_number g l) (side_small g l))
      ∙ ap (λ (f : ℕ). nat_lt g h && (nat_eq 31 31 && nat_eq (1681915904 + 2 * t) f)) (even_address u (side_number h m) (side_small h m))
      ∙ of_one_link 1681915904 t u g h

  paired : ArePaired e.links (ospf_place e class_count) are_adjacent
  paired = record { same = pair }

  pub ospf_adjacencies : AreBetween e.links e.count → adjacencies_of (emitted e) ≡ map (emitted_link e) (enumerate_from 0 e.links)
  unfolding adjacencies_of
  ospf_adjacencies between =
      links_of_some are_adjacent is_active_place (places interfaces_of (emitted e)) only_active
      ∙ ap (links_joining are_adjacent) active_places
      ∙ links_by_spots e.links e.count class_count (ospf_place e class_count) are_adjacent paired between
      ∙ ap (λ (q : Protocol). map {B = Link} (λ (p : ℕ × QLink).
      record {
        low = p.1.low;
        high = p.1.high;
        low_item = first_item q e p.1.low + links_before e.links p.1.low p.0;
        high_item =
            first_item q e p.1.high + links_before e.links p.1.high p.0;
      }) (enumerate_from 0 e.links)) (sym over)
