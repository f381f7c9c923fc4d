-- The initial route of the first member of a group, and the interfaces of its router in the prefixes of the class. Public: crates above may cite it.
use Rattle.std.proofs.Common.{◌≡◌, ℕ, zero, suc, ◌+◌, ◌-◌, ◌*◌, ◌/◌, ◌^◌, ◌≤◌, Bool, true, false, cond, List, [], ◌∷◌, ◌++◌, length, map, inl, inr, Option, Some, None, refl, sym, ap, ◌∙◌, subst, arith}
use Rattle.std.specs.Prelude.{is_some, min, slice_get, slice_index_or, Contains}
use Rattle.std.specs.List.{enumerate_from}
use Rattle.std.specs.Option.{option_map, option_map_or}
use Rattle.std.proofs.lemmas.Nat.{shl-shr}
use Rattle.base_kit.specs.Prefixes.{Prefix, same_prefix}
use Rattle.base_kit.proofs.Elements.{In, in_contains, in_filter_map, in_enumerate, in_get, append_in}
use Rattle.base_kit.proofs.SetFacts.{same_number}
use Rattle.cfg_ast.specs.declared.interface.Interface.{Interface}
use Rattle.cfg_ast.specs.declared.network.Router.{Router}
use Rattle.cfg_ast.specs.meaning.Addresses.{Address}
use Rattle.cfg_ast.specs.meaning.Classes.{initial_route, is_up_in}
use Rattle.cfg_ast.specs.meaning.RouterFaults.{overlap}
use Rattle.cfg_ast.specs.meaning.Topology.{subnet_of_address, up_address}
use Rattle.cfg_ast.specs.printing.Bare.{bare_address}
use Rattle.srp_core.specs.declared.route.Route.{Route}
use Rattle.srp_core.specs.Problem.{initial}
use Rattle.srp_core.specs.ProblemOf.{start_route}
use Rattle.srp_quotient.specs.Groups.{first_member}
use Rattle.config_emit.specs.Interfaces.{interface_in, class_interface, class_interface_in, class_interfaces, class_interfaces_on, link_address, link_interfaces, side_number}
use Rattle.config_emit.specs.Laws.{IsPlan}
use Rattle.config_emit.specs.Plan.{Plan}
use Rattle.config_emit.specs.Pool.{meets_pool}
use Rattle.emit_form_laws.proofs.Addresses.{overlap_meets, outside_pool}
use Rattle.emit_form_laws.proofs.Groups.{HasFirst}
use Rattle.emit_form_laws.proofs.Interfaces.{class_at, link_at, side_below, up_in_is}
use Rattle.emit_form_laws.proofs.Processes.{same_overlap}

pub start_at : (p : Prefix) (rs : List Router) (k : ℕ) (r : Router) → slice_get rs k ≡ Some r → slice_index_or (map (start_route p) rs) k None ≡ start_route p r
start_at p [] k r e = absurd cc
start_at p (x ∷ rs) zero r e = let same : x ≡ r = cc in ap (start_route p) same
start_at p (x ∷ rs) (suc k) r e = start_at p rs k r e

pub first_start : (e : Plan) (plan : IsPlan e) (p : Prefix) → Contains e.class.prefixes p → (g : ℕ) (first : HasFirst e g) →
    initial e.problem (first_member e.groups g) ≡ start_route p first.router
first_start e plan p at g first =
    ap (λ (l : List (Option Route)). slice_index_or l (first_member e.groups g) None) (plan.problem p at).init
    ∙ start_at p e.network.routers (first_member e.groups g) first.router first.at

-- ---- subnets

pub same_prefix_self : (p : Prefix) → same_prefix p p ≡ true
same_prefix_self p = (let a = same_number p.addr p.addr refl in let l = same_number p.len p.len refl in rw a l)

pub up_in : (p : Prefix) (x : Interface) (a : Address) → up_address x ≡ Some a → subnet_of_address a ≡ p → is_up_in p x ≡ true
up_in p x a up subnet = ap (λ (o : Option Address). option_map_or (same_prefix p) (option_map subnet_of_address o) false) up ∙ ap (same_prefix p) subnet
    ∙ same_prefix_self p

-- addresses with one subnet overlap
pub subnets_overlap : (a b : Address) → subnet_of_address a ≡ subnet_of_address b → overlap a b ≡ true
subnets_overlap a b same =
    let len : a.len ≡ b.len = ap (λ (p : Prefix). p.len) same in
    let k : ℕ = 32 - a.len in
    let first : a.addr / 2 ^ k * 2 ^ k ≡ b.addr / 2 ^ k * 2 ^ k = ap (λ (p : Prefix). p.addr) same ∙ ap (λ n. b.addr / 2 ^ (32 - n) * 2 ^ (32 - n)) (sym len) in
    let cut : a.addr / 2 ^ k ≡ b.addr / 2 ^ k = sym (shl-shr (a.addr / 2 ^ k) k) ∙ ap (λ n. n / 2 ^ k) first ∙ shl-shr (b.addr / 2 ^ k) k in
    let least : 32 - min a.len b.len ≡ k = omega arith in
    same_number (a.addr / 2 ^ (32 - min a.len b.len)) (b.addr / 2 ^ (32 - min a.len b.len))
    (ap (λ n. a.addr / 2 ^ n) least ∙ cut ∙ ap (λ n. b.addr / 2 ^ n) (sym least))

-- ---- interfaces of the router of a group

-- one in a prefix that the first member originates
pub class_here : (e : Plan) (g : ℕ) (first : HasFirst e g) (p : Prefix) → Contains e.class.prefixes p → is_some (initial_route first.router p) ≡ true →
    (o : Interface) → interface_in e.problem.protocol first.router p ≡ Some o
    → (j : ℕ) × In (class_interfaces e g) (class_interface e.problem.protocol j o)
unfolding class_interfaces
class_here e g first p at originates o found =
    let place = in_get e.class.prefixes p (in_contains e.class.prefixes p at) in
    let j : ℕ = 1 + place.0 in
    let made : class_interface_in e.problem.protocol first.router (j, p) ≡ Some (class_interface e.problem.protocol j o) =
    ap (λ b. cond b (option_map (class_interface e.problem.protocol j) (interface_in e.problem.protocol first.router p)) None) originates
    ∙ ap (option_map (class_interface e.problem.protocol j)) found in
    let here : In (class_interfaces_on e.problem.protocol e.class.prefixes first.router) (class_interface e.problem.protocol j o) =
    in_filter_map (class_interface_in e.problem.protocol first.router) (enumerate_from 1 e.class.prefixes) (j, p) (class_interface e.problem.protocol j o)
    (in_enumerate e.class.prefixes 1 place.0 p place.1) made in (
      j,
      subst (λ (r : Option Router). In (option_map_or (class_interfaces_on e.problem.protocol e.class.prefixes) r [])
          (class_interface e.problem.protocol j o)) (sym first.at) here,
    )

address_up : (x : Interface) (a b : Address) → x.address ≡ Some a → up_address x ≡ Some b → a ≡ b
address_up x a b has up = step x.shut up
  where
    step : (s : Bool) → cond s None x.address ≡ Some b → a ≡ b
    step true e = absurd cc
    step false e = cc

-- an interface in a prefix of the class is one in a prefix that the first member originates
pub only_class : (e : Plan) (plan : IsPlan e) → length e.links ≤ 1048576 → (g : ℕ) (first : HasFirst e g) (p : Prefix) → Contains e.class.prefixes p →
    (x : Interface) → In (class_interfaces e g ++ link_interfaces e g) x → is_up_in p x ≡ true → is_some (initial_route first.router p) ≡ true
only_class e plan few g first p at x h up =
    let a = up_in_is p x up in
    elim (append_in (class_interfaces e g) (link_interfaces e g) x h) [
      | inl class ↦ (let c = class_at e g x class in
          let same : c.router ≡ first.router = let f = c.at in let h = first.at in cc in
          let prefix : c.prefix ≡ p = sym c.subnet ∙ ap subnet_of_address (address_up x (bare_address c.address) a.0 c.given a.1) ∙ a.2 in
          subst (λ (q : Prefix). is_some (initial_route first.router q) ≡ true) prefix
          (subst (λ (r : Router). is_some (initial_route r c.prefix) ≡ true) same c.originates))
      | inr link ↦ (let l = link_at e g x link in
          let t = l.of.within in
          let addr : Address = link_address l.place (side_number g l.link) in
          let subnet : subnet_of_address addr ≡ p = ap subnet_of_address (address_up x addr a.0 l.given a.1) ∙ a.2 in
          let meets : meets_pool p ≡ true = ap meets_pool (sym subnet)
          ∙ overlap_meets addr l.place (side_number g l.link) (side_below g l.link) (omega arith) (same_overlap addr addr refl) in
          absurd (outside_pool e plan p (in_contains e.class.prefixes p at) meets))
    ]
