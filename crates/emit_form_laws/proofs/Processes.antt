-- The BGP and OSPF processes of the router of a group are as the grammar has them. Public: the crates above that
-- speak of the network of the groups use these lemmas too.
use Rattle.std.proofs.Common.{◌≡◌, ◌≢◌, ℕ, zero, suc, ◌+◌, ◌-◌, ◌*◌, ◌/◌, ◌^◌, ◌<◌, ◌≤◌, min, Bool, true, false, cond, ◌&&◌, List, [], ◌∷◌, ◌++◌, map, length, Option, Some, None, refl, sym, ◌∙◌, ap, subst, arith, nat_eq, bytes_eq}
use Rattle.std.specs.Prelude.{IfSome, filter_map, is_some, slice_get}
use Rattle.std.specs.Option.{option_map, option_map_or, unwrap_or}
use Rattle.std.specs.List.{AllByRecursion, IsDistinct, enumerate_from}
use Rattle.base_kit.specs.Prefixes.{Prefix}
use Rattle.base_kit.specs.declared.protocol.Protocol.{Protocol}
use Rattle.base_kit.specs.declared.protocol.Protocol.TheVariants.{Bgp as OverBgp, Ospf as OverOspf}
use Rattle.base_kit.proofs.Elements.{In, map_in, filter_map_in, flat_map_in, get_in}
use Rattle.base_kit.proofs.SetFacts.{same_number, other_number}
use Rattle.cfg_ast.specs.meaning.Addresses.{Address}
use Rattle.cfg_ast.specs.declared.bgp.Base.{Base}
use Rattle.cfg_ast.specs.declared.bgp.BgpProcess.{BgpProcess}
use Rattle.cfg_ast.specs.declared.bgp.NetLine.{NetLine}
use Rattle.cfg_ast.specs.declared.bgp.Neighbor.{Neighbor}
use Rattle.cfg_ast.specs.declared.interface.Interface.{Interface}
use Rattle.cfg_ast.specs.declared.network.Router.{Router}
use Rattle.cfg_ast.specs.declared.ospf.AreaLine.{AreaLine}
use Rattle.cfg_ast.specs.declared.ospf.OspfProcess.{OspfProcess}
use Rattle.cfg_ast.specs.meaning.Classes.{initial_route}
use Rattle.cfg_ast.specs.meaning.Policy.{default_preference}
use Rattle.cfg_ast.specs.meaning.RouterFaults.{overlap, areas_of, area_lines}
use Rattle.cfg_ast.specs.printing.WellFormed.{IsBetween, IsNumber, IsWellFormedAddress, IsWellFormedInterface, IsWellFormedNetLine, same_net, IsWellFormedNamed, IsWellFormedNeighbor, same_neighbor, IsWellFormedBase, IsWellFormedBgp, IsWellFormedArea, IsInterfaceName, IsWellFormedOspf, IsWellFormedRouter}
use Rattle.cfg_ast.specs.text.Stanzas.{same_area_line}
use Rattle.cfg_ast.proofs.PrefixSets.{not_same_before}
use Rattle.abstract_net.specs.Links.{QuotientCarries}
use Rattle.abstract_net.specs.declared.qlink.QLink.{QLink}
use Rattle.route_maps.specs.declared.plain.Plain.{Plain}
use Rattle.srp_core.specs.Problem.{number}
use Rattle.config_emit.specs.Laws.{IsPlan}
use Rattle.config_emit.specs.Emitted.{class_line_of, net_lines, base_of, written_base, neighbor_at, process_of, written_bgp, host_area_line, interface_name, ospf_on, area_number, ospf_of}
use Rattle.config_emit.specs.Interfaces.{class_interfaces, is_at, links_at, side_number, link_interfaces}
use Rattle.config_emit.specs.Maps.{other_end, act_in_map, act_out_map, is_whole, map_name, named, number_of_map, maps_of, name_of_map}
use Rattle.config_emit.specs.Plan.{Plan, small, first_router_of, act_into}
use Rattle.emit_form_laws.proofs.Addresses.{AreApart, interfaces_apart}
use Rattle.emit_form_laws.proofs.Groups.{end_of, linked, number_below}
use Rattle.emit_form_laws.proofs.Interfaces.{IsLinkOf, link_of, class_names}
use Rattle.emit_form_laws.proofs.Names.{map_name_is}
use Rattle.emit_form_laws.proofs.Origins.{IsBefore, some_holds, class_is, class_prefix, class_pairs, originated_is, router_forms}
use Rattle.emit_form_laws.proofs.Pairwise.{IsPairwise, IsEarlier, all_from, all_in, weaker, pairs_map, pairs_filter, pairs_filter_map, distinct_from, numbered_pairs}
use Rattle.emit_form_laws.proofs.Policies.{number_few}

-- ---- `network` lines

-- a `network` line has a prefix of the class that the first member originates
pub record IsNetOf (e : Plan) (g : ℕ) (net : NetLine) : Type 0 where
  pub router : Router
  pub at : first_router_of e g ≡ Some router
  pub prefix_in : In e.class.prefixes net.prefix
  pub originates : is_some (initial_route router net.prefix) ≡ true

net_is : (r : Router) (p : Prefix) (net : NetLine) → class_line_of r p ≡ Some net → (is_some (initial_route r p) ≡ true) × (net.prefix ≡ p)
net_is r p net e = step (is_some (initial_route r p)) e
  where
    step : (b : Bool) → cond b (Some (record { prefix = p; line = 0 })) None ≡ Some net → (b ≡ true) × (net.prefix ≡ p)
    step true e = (refl, ap (λ (o : Option NetLine). option_map_or (λ (n : NetLine). n.prefix) o p) (sym e))
    step false e = absurd cc

pub net_of : (e : Plan) (g : ℕ) (net : NetLine) → In (net_lines e g) net → IsNetOf e g net
net_of e g net h = step (first_router_of e g) refl h
  where
    step : (o : Option Router) → first_router_of e g ≡ o → In (option_map_or (λ r. filter_map (class_line_of r) e.class.prefixes) o []) net → IsNetOf e g net
    step None at h = absurd h
    step (Some r) at h =
        let f = filter_map_in (class_line_of r) e.class.prefixes net h in
        let is = net_is r f.0 net f.2 in
        record { router = r; at = at; prefix_in = subst (In e.class.prefixes) (sym is.1) f.1; originates = ap (λ p. is_some (initial_route r p)) is.1 ∙ is.0 }

nets_form : (e : Plan) → IsPlan e → (g : ℕ) → AllByRecursion IsWellFormedNetLine (net_lines e g)
nets_form e plan g =
    all_from IsWellFormedNetLine (net_lines e g)
    (λ net h.
    let of = net_of e g net h in
    let is = originated_is e.network net.prefix plan.well_formed
    (class_prefix e.network e.class net.prefix (class_is e.network e.class plan.class) of.prefix_in) in
    record { prefix = is.prefix; some = is.some })

nets_once : (e : Plan) → IsPlan e → (g : ℕ) → IsDistinct same_net (net_lines e g)
nets_once e plan g = distinct_from same_net (net_lines e g) (step (first_router_of e g))
  where
    step : (o : Option Router) → IsPairwise (λ (a b : NetLine). same_net a b ≡ false) (option_map_or (λ r. filter_map (class_line_of r) e.class.prefixes) o [])
    step None = tt
    step (Some r) =
        pairs_filter_map (class_line_of r) IsBefore (λ (a b : NetLine). same_net a b ≡ false) e.class.prefixes
        (λ p q a b h i before is is'.
        not_same_before a.prefix b.prefix
        (subst (λ (z : Prefix). IsBefore z b.prefix) (sym (net_is r p a is).1) (subst (IsBefore p) (sym (net_is r q b is').1) before)))
        (class_pairs e.network e.class (class_is e.network e.class plan.class))

-- ---- the default preference

preference_form : (r : Router) → IsWellFormedRouter r → default_preference r ≤ 4294967295
preference_form r form = step r.bgp form.bgp
  where
    by_base : (o : Option Base) → IfSome o IsWellFormedBase → option_map_or (λ (base : Base). base.value) o 100 ≤ 4294967295
    by_base None is = omega arith
    by_base (Some base) is = is

    step : (o : Option BgpProcess) → IfSome o IsWellFormedBgp →
        option_map_or (λ (process : BgpProcess). option_map_or (λ (base : Base). base.value) process.base 100) o 100 ≤ 4294967295
    step None is = omega arith
    step (Some process) is = by_base process.base is.base

base_form : (e : Plan) → IsPlan e → (g : ℕ) → IfSome (written_base e g) IsWellFormedBase
base_form e plan g = step (first_router_of e g) refl
  where
    on : (r : Router) → IsWellFormedRouter r → (b : Bool) → IfSome (cond b None (Some (record { value = default_preference r; line = 0 }))) IsWellFormedBase
    on r form true = tt
    on r form false = preference_form r form

    of : (r : Router) → IsWellFormedRouter r → (nets : List NetLine) → IfSome (base_of nets r) IsWellFormedBase
    of r form [] = tt
    of r form (net ∷ nets) = on r form (nat_eq (default_preference r) 100)

    step : (o : Option Router) → first_router_of e g ≡ o → IfSome (option_map_or (base_of (net_lines e g)) o None) IsWellFormedBase
    step None at = tt
    step (Some r) at = of r (router_forms e.network plan.well_formed r (get_in e.network.routers _ r at)) (net_lines e g)

-- ---- neighbours

name_form : (e : Plan) → length e.links ≤ 1048576 → (g : ℕ) (o : Option Plain) → IfSome (name_of_map (maps_of e g) o) IsWellFormedNamed
name_form e few g None = tt
name_form e few g (Some m) = step (is_whole m.entries)
  where
    step : (b : Bool) → IfSome (cond b None (Some (named (map_name (number_of_map (maps_of e g) m))))) IsWellFormedNamed
    step true = tt
    step false = let small = number_few e few g m in map_name_is (number_of_map (maps_of e g) m) (omega arith)

other_side : (g : ℕ) (l : QLink) → 1 - side_number g l ≤ 1
other_side g l = omega arith

neighbor_form : (e : Plan) → IsPlan e → QuotientCarries → length e.links ≤ 1048576 → e.problem.protocol ≡ OverBgp → (g t : ℕ) (l : QLink) → IsLinkOf e g t l →
    IsWellFormedNeighbor (neighbor_at e g (t, l))
neighbor_form e plan law few bgp g t l of =
    let end = end_of e plan law g l of.link_in of.touched in
    let within = of.within in
    let side = other_side g l in
    let some = linked e plan law bgp end.0 l of.link_in end.1.touched in
    let most = number_below e plan end.0 end.1.there in
    record {
      addr = omega arith;
      remote = subst (λ h. IsBetween 1 4294967295 (number (small e) h)) (sym end.1.other) (positive (number (small e) end.0) some, most);
      list_in = tt;
      list_out = tt;
      map_in = name_form e few g (Some (act_in_map (act_into e g l)));
      map_out = name_form e few g (act_out_map (act_into e (other_end g l) l));
    }
  where
    positive : (n : ℕ) → n ≢ 0 → 1 ≤ n
    positive zero some = absurd (some refl)
    positive (suc n) some = omega arith

neighbors_form : (e : Plan) → IsPlan e → QuotientCarries → length e.links ≤ 1048576 → e.problem.protocol ≡ OverBgp → (g : ℕ) →
    AllByRecursion IsWellFormedNeighbor (map (neighbor_at e g) (links_at e g))
neighbors_form e plan law few bgp g =
    all_from IsWellFormedNeighbor (map (neighbor_at e g) (links_at e g))
    (λ p h. let m = map_in (neighbor_at e g) (links_at e g) p h in
    subst IsWellFormedNeighbor m.2 (neighbor_form e plan law few bgp g m.0.0 m.0.1 (link_of e g m.0.0 m.0.1 m.1)))

neighbors_once : (e : Plan) (g : ℕ) → IsDistinct same_neighbor (map (neighbor_at e g) (links_at e g))
unfolding links_at
neighbors_once e g =
    distinct_from same_neighbor (map (neighbor_at e g) (links_at e g))
    (pairs_map (neighbor_at e g) (λ (a b : Neighbor). same_neighbor a b ≡ false) (links_at e g)
    (weaker IsEarlier (λ (p q : ℕ × QLink). same_neighbor (neighbor_at e g p) (neighbor_at e g q) ≡ false) (links_at e g)
    (λ (t, l) (u, m) h i less.
    let low = other_side g l in
    let high = other_side g m in
    other_number (1681915904 + 2 * t + (1 - side_number g l)) (1681915904 + 2 * u + (1 - side_number g m)) (λ same. absurd (omega arith)))
    (pairs_filter (is_at g) IsEarlier (enumerate_from 0 e.links) (numbered_pairs 0 e.links))))

-- ---- the BGP process

-- the AS number of a group that has a process
pub number_form : (e : Plan) → IsPlan e → (g : ℕ) → g < e.count → number (small e) g ≢ 0 → IsBetween 1 4294967295 (number (small e) g)
number_form e plan g below some = (positive (number (small e) g) some, number_below e plan g below)
  where
    positive : (n : ℕ) → n ≢ 0 → 1 ≤ n
    positive zero some = absurd (some refl)
    positive (suc n) some = omega arith

pub bgp_form : (e : Plan) → IsPlan e → QuotientCarries → length e.links ≤ 1048576 → (g : ℕ) → g < e.count →
    IfSome (written_bgp e.problem.protocol e g) IsWellFormedBgp
bgp_form e plan law few g below = over e.problem.protocol refl
  where
    step : e.problem.protocol ≡ OverBgp → (b : Bool) → nat_eq (number (small e) g) 0 ≡ b → IfSome (cond b None (Some (process_of e g))) IsWellFormedBgp
    step bgp true is = tt
    step bgp false is = record {
      number = number_form e plan g below (λ same. (let zero = same_number (number (small e) g) 0 same in cc));
      base = base_form e plan g;
      networks = nets_form e plan g;
      networks_once = nets_once e plan g;
      neighbors = neighbors_form e plan law few bgp g;
      neighbors_once = neighbors_once e g;
    }

    over : (q : Protocol) → e.problem.protocol ≡ q → IfSome (written_bgp q e g) IsWellFormedBgp
    over OverOspf is = tt
    over OverBgp is = step is (nat_eq (number (small e) g) 0) refl

-- ---- the OSPF process

area_form : (e : Plan) → IsPlan e → IsNumber (area_number e)
area_form e plan = step (slice_get (area_lines e.network) 0) refl
  where
    step : (o : Option AreaLine) → slice_get (area_lines e.network) 0 ≡ o → unwrap_or (option_map (λ (l : AreaLine). l.area) o) 0 ≤ 4294967295
    step None is = omega arith
    step (Some line) is =
        let r = flat_map_in areas_of e.network.routers line (get_in (area_lines e.network) 0 line is) in
        on r.0.ospf (router_forms e.network plan.well_formed r.0 r.1).ospf r.2
      where
        on : (o : Option OspfProcess) → IfSome o IsWellFormedOspf → In (option_map_or (λ (process : OspfProcess). process.areas) o []) line →
            line.area ≤ 4294967295
        on None form h = absurd h
        on (Some process) form h = (all_in IsWellFormedArea process.areas line form.areas h).area

area_of_interface : (area : ℕ) (x : Interface) (line : AreaLine) → host_area_line area x ≡ Some line → (a : Address) × (x.address ≡ Some a)
    × (a.addr ≡ line.addr) × (line.wild ≡ 0) × (line.area ≡ area)
area_of_interface area x line e = step x.address e
  where
    step : (o : Option Address) → option_map (λ (a : Address). let made : AreaLine = record { addr = a.addr; wild = 0; area = area; line = 0 } in made) o ≡ Some
        line → (a : Address) × (o ≡ Some a) × (a.addr ≡ line.addr) × (line.wild ≡ 0) × (line.area ≡ area)
    step None e = absurd cc
    step (Some a) e =
        let same : ◌≡◌ {A = AreaLine} (record { addr = a.addr; wild = 0; area = area; line = 0 }) line = cc in
        (a, refl, ap (λ (l : AreaLine). l.addr) same, ap (λ (l : AreaLine). l.wild) (sym same), ap (λ (l : AreaLine). l.area) (sym same))

areas_form : (area : ℕ) → IsNumber area → (xs : List Interface) → AllByRecursion IsWellFormedInterface xs →
    AllByRecursion IsWellFormedArea (filter_map (host_area_line area) xs)
areas_form area is xs forms =
    all_from IsWellFormedArea (filter_map (host_area_line area) xs)
    (λ line h.
    let f = filter_map_in (host_area_line area) xs line h in
    let a = area_of_interface area f.0 line f.2 in
    let addr = (some_holds IsWellFormedAddress f.0.address a.0 (all_in IsWellFormedInterface xs f.0 forms f.1).address a.1).addr in
    record { addr = subst IsNumber a.2 addr; wild = subst IsNumber (sym a.3) (omega arith); area = subst IsNumber (sym a.4) is })

-- addresses that are the same overlap
pub same_overlap : (a b : Address) → a.addr ≡ b.addr → overlap a b ≡ true
same_overlap a b same = same_number (a.addr / 2 ^ (32 - min a.len b.len)) (b.addr / 2 ^ (32 - min a.len b.len)) (ap (λ n. n / 2 ^ (32 - min a.len b.len)) same)

areas_once : (area : ℕ) (xs : List Interface) → IsPairwise AreApart xs → IsDistinct same_area_line (filter_map (host_area_line area) xs)
areas_once area xs apart =
    distinct_from same_area_line (filter_map (host_area_line area) xs)
    (pairs_filter_map (host_area_line area) AreApart (λ (l m : AreaLine). same_area_line l m ≡ false) xs
    (λ x y l m h i away is is'.
    let a = area_of_interface area x l is in
    let b = area_of_interface area y m is' in
    not_same l m (λ same. (let over = same_overlap b.0 a.0 (b.2 ∙ sym same ∙ sym a.2) in let clear = away.apart a.0 b.0 a.1 b.1 in cc)))
    apart)
  where
    not_same : (l m : AreaLine) → (l.addr ≡ m.addr → ⊥) → same_area_line l m ≡ false
    not_same l m other = ap (λ b. b && (nat_eq l.wild m.wild) && (nat_eq l.area m.area)) (other_number l.addr m.addr other)

pub ospf_form : (e : Plan) → IsPlan e → length e.links ≤ 1048576 → (g : ℕ) → AllByRecursion IsWellFormedInterface (class_interfaces e g) →
    AllByRecursion IsWellFormedInterface (class_interfaces e g ++ link_interfaces e g)
    → IfSome (ospf_of e.problem.protocol e g) IsWellFormedOspf
ospf_form e plan few g class all = over e.problem.protocol
  where
    names : (xs : List Interface) → AllByRecursion IsWellFormedInterface xs → AllByRecursion IsInterfaceName (map interface_name xs)
    names [] forms = tt
    names (x ∷ xs) forms = (forms.0.name, names xs forms.1)

    step : (xs : List Interface) → AllByRecursion IsWellFormedInterface xs → IsPairwise AreApart xs →
        IfSome (ospf_on (area_number e) (class_interfaces e g) xs) IsWellFormedOspf
    step [] forms apart = tt
    step (x ∷ xs) forms apart = record {
      number = (omega arith, omega arith);
      passive = names (class_interfaces e g) class;
      passive_once = distinct_from bytes_eq (map interface_name (class_interfaces e g))
          (pairs_map interface_name (λ (a b : List ℕ). bytes_eq a b ≡ false) (class_interfaces e g) (class_names e plan g));
      not_passive = tt;
      not_passive_once = distinct_from bytes_eq [] tt;
      areas = areas_form (area_number e) (area_form e plan) (x ∷ xs) forms;
      areas_once = areas_once (area_number e) (x ∷ xs) apart;
    }

    over : (q : Protocol) → IfSome (ospf_of q e g) IsWellFormedOspf
    over OverBgp = tt
    over OverOspf = step (class_interfaces e g ++ link_interfaces e g) all (interfaces_apart e plan few g)
