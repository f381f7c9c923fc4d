-- The interfaces of the router of a group, by what they come from, and their forms. Public: the crates above that
-- speak of the network of the groups use these lemmas too.
use Rattle.std.proofs.Common.{◌≡◌, ℕ, suc, ◌+◌, ◌^◌, ◌<◌, ◌≤◌, Bool, true, false, cond, not, ◌&&◌, List, [], ◌∷◌, ◌++◌, length, inl, inr, Option, Some, None, refl, sym, ◌∙◌, ap, subst, arith, nat_eq, find, codes, decimal, bytes_eq}
use Rattle.std.specs.Prelude.{IfSome, is_some, slice_get}
use Rattle.std.specs.Option.{option_map, option_map_or}
use Rattle.std.specs.List.{enumerate_from}
use Rattle.std.proofs.lemmas.List.Filters.{length-filter_both}
use Rattle.std.proofs.lemmas.Option.{slice_get_within}
use Rattle.base_kit.specs.Prefixes.{Prefix, same_prefix}
use Rattle.base_kit.specs.declared.protocol.Protocol.{Protocol}
use Rattle.base_kit.specs.declared.protocol.Protocol.TheVariants.{Bgp as OverBgp, Ospf as OverOspf}
use Rattle.base_kit.proofs.Elements.{In, map_in, filter_in, filter_map_in, in_filter_map, enumerate_in, get_in}
use Rattle.cfg_ast.specs.meaning.Addresses.{Address}
use Rattle.cfg_ast.specs.declared.interface.Interface.{Interface}
use Rattle.cfg_ast.specs.declared.network.Router.{Router}
use Rattle.cfg_ast.specs.meaning.Classes.{is_up_in, initial_route}
use Rattle.cfg_ast.specs.meaning.RouterFaults.{up_addresses_of}
use Rattle.cfg_ast.specs.meaning.Topology.{subnet_of_address, up_address, is_in_area_interface}
use Rattle.cfg_ast.specs.printing.Bare.{bare_address}
use Rattle.cfg_ast.specs.printing.WellFormed.{IsWellFormedAddress, IsWellFormedInterface}
use Rattle.cfg_ast.proofs.PrefixSets.{one_prefix}
use Rattle.abstract_net.specs.Links.{QuotientCarries}
use Rattle.abstract_net.specs.declared.qlink.QLink.{QLink}
use Rattle.srp_quotient.specs.Groups.{first_member, touches}
use Rattle.config_emit.specs.Laws.{IsPlan}
use Rattle.config_emit.specs.Interfaces.{interface_in, cost_over, class_interface, class_interface_in, class_interfaces_on, class_interfaces, is_at, links_at, side_number, link_address, link_interface, link_interfaces}
use Rattle.config_emit.specs.Plan.{Plan, first_router_of}
use Rattle.emit_form_laws.proofs.Acts.{IsCost, cost_form, link_cost}
use Rattle.emit_form_laws.proofs.Groups.{end_of}
use Rattle.emit_form_laws.proofs.Names.{class_name_is, link_name_is, numbers_apart, fronts_apart}
use Rattle.emit_form_laws.proofs.Origins.{map_some, class_is, few_prefixes, interface_forms, up_some, up_form}
use Rattle.emit_form_laws.proofs.Pairwise.{IsPairwise, IsEarlier, weaker, pairs_map, pairs_filter_map, pairs_append, numbered_pairs}

-- ---- interfaces in the prefixes of the class

-- the interface of a prefix, with the address that the first member has in it
pub record IsClassAt (e : Plan) (g : ℕ) (x : Interface) : Type 0 where
  pub number : ℕ
  pub prefix : Prefix
  pub numbered : In (enumerate_from 1 e.class.prefixes) (number, prefix)
  pub prefix_in : In e.class.prefixes prefix
  pub early : number ≤ length e.class.prefixes
  pub router : Router
  pub at : first_router_of e g ≡ Some router
  pub router_in : In e.network.routers router
  pub originates : is_some (initial_route router prefix) ≡ true
  pub origin : Interface
  pub found : interface_in e.problem.protocol router prefix ≡ Some origin
  pub origin_in : In router.interfaces origin
  pub address : Address
  pub up : up_address origin ≡ Some address
  pub address_in : In (up_addresses_of router) address
  pub subnet : subnet_of_address address ≡ prefix
  pub is : class_interface e.problem.protocol number origin ≡ x
  pub given : x.address ≡ Some (bare_address address)

found_in : {X : Type 0} (p : X → Bool) (xs : List X) (y : X) → find p xs ≡ Some y → In xs y × (p y ≡ true)
found_in p [] y e = absurd cc
found_in {X} p (x ∷ xs) y e = step (p x) refl e (found_in p xs y)
  where
    step : (b : Bool) → p x ≡ b → cond b (Some x) (find p xs) ≡ Some y → (find p xs ≡ Some y → In xs y × (p y ≡ true)) → In (x ∷ xs) y × (p y ≡ true)
    step true is e ih = let same : x ≡ y = cc in (inl same, ap p (sym same) ∙ is)
    step false is e ih = let r = ih e in (inr r.0, r.1)

and_second : (a b : Bool) → (a && b) ≡ true → b ≡ true
and_second true b e = e
and_second false b e = absurd cc

origin_is : (q : Protocol) (r : Router) (p : Prefix) (x : Interface) → interface_in q r p ≡ Some x → In r.interfaces x × (is_up_in p x ≡ true)
origin_is OverBgp r p x e = found_in (is_up_in p) r.interfaces x e
origin_is OverOspf r p x e = let f = found_in (λ y. is_in_area_interface r y && is_up_in p y) r.interfaces x e in
    (f.0, and_second (is_in_area_interface r x) (is_up_in p x) f.1)

pub up_in_is : (p : Prefix) (x : Interface) → is_up_in p x ≡ true → (a : Address) × (up_address x ≡ Some a) × (subnet_of_address a ≡ p)
up_in_is p x e = step (up_address x) refl e
  where
    step : (o : Option Address) → up_address x ≡ o → option_map_or (same_prefix p) (option_map subnet_of_address o) false ≡ true →
        (a : Address) × (up_address x ≡ Some a) × (subnet_of_address a ≡ p)
    step None is e = absurd cc
    step (Some a) is e = (a, is, sym (one_prefix p (subnet_of_address a) e))

cond_some : {X : Type 0} (b : Bool) (o : Option X) (x : X) → cond b o None ≡ Some x → (b ≡ true) × (o ≡ Some x)
cond_some true o x e = (refl, e)
cond_some false o x e = absurd cc

made_address : (q : Protocol) (number : ℕ) (origin x : Interface) (a : Address) → class_interface q number origin ≡ x → origin.address ≡ Some a →
    x.address ≡ Some (bare_address a)
made_address q number origin x a is given = ap (λ (y : Interface). y.address) (sym is) ∙ ap (option_map bare_address) given

-- the interface that is made of a prefix and its number
pub class_of_entry : (e : Plan) (g : ℕ) (r : Router) (number : ℕ) (prefix : Prefix) (x : Interface) → first_router_of e g ≡ Some r →
    In (enumerate_from 1 e.class.prefixes) (number, prefix) → class_interface_in e.problem.protocol r (number, prefix) ≡ Some x
    → (c : IsClassAt e g x) × (c.prefix ≡ prefix)
class_of_entry e g r number prefix x at numbered made =
    let c = cond_some (is_some (initial_route r prefix)) (option_map (class_interface e.problem.protocol number) (interface_in e.problem.protocol r prefix)) x
    made in
    let o = map_some (class_interface e.problem.protocol number) (interface_in e.problem.protocol r prefix) x c.1 in
    let from = origin_is e.problem.protocol r prefix o.0 o.1 in
    let a = up_in_is prefix o.0 from.1 in
    let placed = enumerate_in e.class.prefixes 1 number prefix numbered in (
      record {
        number = number;
        prefix = prefix;
        numbered = numbered;
        prefix_in = get_in e.class.prefixes placed.0 prefix placed.2;
        early = (let within = slice_get_within e.class.prefixes placed.0 prefix placed.2 in let n = placed.1 in omega arith);
        router = r;
        at = at;
        router_in = get_in e.network.routers (first_member e.groups g) r at;
        originates = c.0;
        origin = o.0;
        found = o.1;
        origin_in = from.0;
        address = a.0;
        up = a.1;
        address_in = in_filter_map up_address r.interfaces o.0 a.0 from.0 a.1;
        subnet = a.2;
        is = o.2;
        given = made_address e.problem.protocol number o.0 x a.0 o.2 (up_some o.0 a.0 a.1);
      },
      refl,
    )

class_of_router : (e : Plan) (g : ℕ) (r : Router) (x : Interface) → first_router_of e g ≡ Some r →
    In (class_interfaces_on e.problem.protocol e.class.prefixes r) x → IsClassAt e g x
class_of_router e g r x at h =
    let f = filter_map_in (class_interface_in e.problem.protocol r) (enumerate_from 1 e.class.prefixes) x h in
    (class_of_entry e g r f.0.0 f.0.1 x at f.1 f.2).0

pub class_at : (e : Plan) (g : ℕ) (x : Interface) → In (class_interfaces e g) x → IsClassAt e g x
unfolding class_interfaces
class_at e g x h = step (first_router_of e g) refl h
  where
    step : (o : Option Router) → first_router_of e g ≡ o → In (option_map_or (class_interfaces_on e.problem.protocol e.class.prefixes) o []) x → IsClassAt e g x
    step None at h = absurd h
    step (Some r) at h = class_of_router e g r x at h

pub class_numbers : (e : Plan) → IsPlan e → (g : ℕ) → (x : Interface) → (c : IsClassAt e g x) → c.number < 10 ^ 14
class_numbers e plan g x c = let few = few_prefixes e.network e.class plan.well_formed (class_is e.network e.class plan.class) in let early = c.early in
    omega arith

-- ---- interfaces of links

-- the link t of a group
pub record IsLinkOf (e : Plan) (g t : ℕ) (l : QLink) : Type 0 where
  pub place : slice_get e.links t ≡ Some l
  pub within : t < length e.links
  pub link_in : In e.links l
  pub touched : touches g l ≡ true

pub link_of : (e : Plan) (g t : ℕ) (l : QLink) → In (links_at e g) (t, l) → IsLinkOf e g t l
unfolding links_at
link_of e g t l h =
    let f = filter_in (is_at g) (enumerate_from 0 e.links) (t, l) h in
    let placed = enumerate_in e.links 0 t l f.0 in
    let same : placed.0 ≡ t = let n = placed.1 in omega arith in
    let place : slice_get e.links t ≡ Some l = subst (λ k. slice_get e.links k ≡ Some l) same placed.2 in
    record { place = place; within = slice_get_within e.links t l place; link_in = get_in e.links t l place; touched = f.1 }

pub few_at : (e : Plan) (g : ℕ) → length (links_at e g) ≤ length e.links
unfolding links_at
few_at e g = let kept = length-filter_both (is_at g) (λ p. not (is_at g p)) (λ p. refl) (enumerate_from 0 e.links) in let all = numbered_length 0 e.links in
    omega arith
  where
    numbered_length : {X : Type 0} (n : ℕ) (xs : List X) → length (enumerate_from n xs) ≡ length xs
    numbered_length n [] = refl
    numbered_length n (x ∷ xs) = ap (λ k. suc k) (numbered_length (n + 1) xs)

pub record IsLinkAt (e : Plan) (g : ℕ) (x : Interface) : Type 0 where
  pub number : ℕ
  pub place : ℕ
  pub link : QLink
  pub numbered : In (enumerate_from 1 (links_at e g)) (number, (place, link))
  pub early : number ≤ length e.links
  pub of : IsLinkOf e g place link
  pub is : link_interface e g (number, (place, link)) ≡ x
  pub given : x.address ≡ Some (link_address place (side_number g link))

pub link_at : (e : Plan) (g : ℕ) (x : Interface) → In (link_interfaces e g) x → IsLinkAt e g x
unfolding link_interfaces
link_at e g x h =
    let m = map_in (link_interface e g) (enumerate_from 1 (links_at e g)) x h in
    let number : ℕ = m.0.0 in
    let place : ℕ = m.0.1.0 in
    let link : QLink = m.0.1.1 in
    let placed = enumerate_in (links_at e g) 1 number (place, link) m.1 in
    record {
      number = number;
      place = place;
      link = link;
      numbered = m.1;
      early = (let within = slice_get_within (links_at e g) placed.0 (place, link) placed.2 in let n = placed.1 in let few = few_at e g in omega arith);
      of = link_of e g place link (get_in (links_at e g) placed.0 (place, link) placed.2);
      is = m.2;
      given = ap (λ (y : Interface). y.address) (sym m.2);
    }

pub side_below : (g : ℕ) (l : QLink) → side_number g l ≤ 1
side_below g l = step (nat_eq l.low g)
  where
    step : (b : Bool) → cond b 0 1 ≤ 1
    step true = omega arith
    step false = omega arith

-- ---- forms

cost_over_form : (q : Protocol) (x : Interface) → IsWellFormedInterface x → IfSome (cost_over q x) IsCost
cost_over_form OverBgp x form = tt
cost_over_form OverOspf x form = cost_form x form

pub class_form : (e : Plan) → IsPlan e → (g : ℕ) (x : Interface) → IsClassAt e g x → IsWellFormedInterface x
class_form e plan g x c =
    let origin = interface_forms e.network plan.well_formed c.router c.router_in c.origin c.origin_in in
    subst IsWellFormedInterface c.is
    (record {
      name = class_name_is c.number (class_numbers e plan g x c);
      address = subst (λ (o : Option Address). IfSome (option_map bare_address o) IsWellFormedAddress) (sym (up_some c.origin c.address c.up))
          (let a = up_form c.origin c.address origin c.up in record { addr = a.addr; len = a.len });
      cost = cost_over_form e.problem.protocol c.origin origin;
    })

pub link_form : (e : Plan) → IsPlan e → QuotientCarries → length e.links ≤ 1048576 → (g : ℕ) (x : Interface) → IsLinkAt e g x → IsWellFormedInterface x
link_form e plan law few g x c =
    let end = end_of e plan law g c.link c.of.link_in c.of.touched in
    let within = c.of.within in
    let early = c.early in
    let side = side_below g c.link in
    subst IsWellFormedInterface c.is
    (record {
      name = link_name_is c.number (omega arith);
      address = record { addr = omega arith; len = (omega arith, omega arith) };
      cost = link_cost e plan law g end.0 c.link c.of.link_in end.1;
    })

-- ---- names

abbrev pub HaveOtherNames : Interface → Interface → Type 0
HaveOtherNames x y = bytes_eq x.name y.name ≡ false

pub class_names : (e : Plan) → IsPlan e → (g : ℕ) → IsPairwise HaveOtherNames (class_interfaces e g)
unfolding class_interfaces
class_names e plan g = step (first_router_of e g) refl
  where
    few : (j : ℕ) (p : Prefix) → In (enumerate_from 1 e.class.prefixes) (j, p) → j < 10 ^ 14
    few j p h =
        let placed = enumerate_in e.class.prefixes 1 j p h in
        let within = slice_get_within e.class.prefixes placed.0 p placed.2 in
        let n = placed.1 in
        let all = few_prefixes e.network e.class plan.well_formed (class_is e.network e.class plan.class) in omega arith

    apart : (r : Router) (p q : ℕ × Prefix) (x y : Interface) → In (enumerate_from 1 e.class.prefixes) p → In (enumerate_from 1 e.class.prefixes) q →
        IsEarlier p q
        → class_interface_in e.problem.protocol r p ≡ Some x → class_interface_in e.problem.protocol r q ≡ Some y → HaveOtherNames x y
    apart r (j, p) (k, q) x y h i less is is' =
        let c = cond_some (is_some (initial_route r p)) (option_map (class_interface e.problem.protocol j) (interface_in e.problem.protocol r p)) x is in
        let d = cond_some (is_some (initial_route r q)) (option_map (class_interface e.problem.protocol k) (interface_in e.problem.protocol r q)) y is' in
        let m = map_some (class_interface e.problem.protocol j) (interface_in e.problem.protocol r p) x c.1 in
        let n = map_some (class_interface e.problem.protocol k) (interface_in e.problem.protocol r q) y d.1 in
        ap (λ (z : Interface). bytes_eq z.name y.name) (sym m.2) ∙ ap (λ (z : Interface). bytes_eq (codes "Vlan" ++ decimal j) z.name) (sym n.2)
        ∙ numbers_apart (codes "Vlan") j k (few j p h) (few k q i) (λ same. absurd (omega arith))

    step : (o : Option Router) → first_router_of e g ≡ o →
        IsPairwise HaveOtherNames (option_map_or (class_interfaces_on e.problem.protocol e.class.prefixes) o [])
    step None at = tt
    step (Some r) at = pairs_filter_map (class_interface_in e.problem.protocol r) IsEarlier HaveOtherNames (enumerate_from 1 e.class.prefixes) (apart r)
        (numbered_pairs 1 e.class.prefixes)

link_names : (e : Plan) → length e.links ≤ 1048576 → (g : ℕ) → IsPairwise HaveOtherNames (link_interfaces e g)
unfolding link_interfaces
link_names e few g =
    pairs_map (link_interface e g) HaveOtherNames (enumerate_from 1 (links_at e g))
    (weaker IsEarlier (λ (p q : ℕ × (ℕ × QLink)). HaveOtherNames (link_interface e g p) (link_interface e g q)) (enumerate_from 1 (links_at e g))
    (λ (j, p) (k, q) h i less. numbers_apart (codes "GigabitEthernet0/") j k (number j p h) (number k q i) (λ same. absurd (omega arith)))
    (numbered_pairs 1 (links_at e g)))
  where
    number : (j : ℕ) (p : ℕ × QLink) → In (enumerate_from 1 (links_at e g)) (j, p) → j < 10 ^ 14
    number j p h = let placed = enumerate_in (links_at e g) 1 j p h in let within = slice_get_within (links_at e g) placed.0 p placed.2 in let n = placed.1 in
        let all = few_at e g in omega arith

pub interface_names : (e : Plan) → IsPlan e → length e.links ≤ 1048576 → (g : ℕ) → IsPairwise HaveOtherNames (class_interfaces e g ++ link_interfaces e g)
interface_names e plan few g =
    pairs_append HaveOtherNames (class_interfaces e g) (link_interfaces e g) (class_names e plan g) (link_names e few g)
    (λ x y h k.
    let c = class_at e g x h in
    let d = link_at e g y k in
    ap (λ (z : Interface). bytes_eq z.name y.name) (sym c.is) ∙ ap (λ (z : Interface). bytes_eq (codes "Vlan" ++ decimal c.number) z.name) (sym d.is)
    ∙ fronts_apart c.number d.number)
