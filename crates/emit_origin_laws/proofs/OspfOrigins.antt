-- In OSPF the router of a group originates what the first member originates, with its cost.
use Rattle.std.proofs.Common.{◌≡◌, ℕ, ◌≤◌, Bool, true, false, ◌&&◌, List, [], ◌∷◌, ◌++◌, length, inl, inr, Option, Some, None, refl, sym, ap, ◌∙◌, filter_map}
use Rattle.std.specs.Prelude.{is_some, bit_or, Contains, if◌then◌else◌}
use Rattle.std.specs.Option.{option_map, option_map_or}
use Rattle.base_kit.specs.Prefixes.{Prefix}
use Rattle.base_kit.specs.declared.protocol.Protocol.TheVariants.{Ospf as OverOspf}
use Rattle.base_kit.proofs.Elements.{In, in_filter_map, in_left}
use Rattle.base_kit.proofs.SetFacts.{same_number}
use Rattle.cfg_ast.specs.declared.bgp.BgpProcess.{BgpProcess}
use Rattle.cfg_ast.specs.declared.interface.Interface.{Interface}
use Rattle.cfg_ast.specs.declared.network.Router.{Router}
use Rattle.cfg_ast.specs.declared.ospf.AreaLine.{AreaLine}
use Rattle.cfg_ast.specs.meaning.Addresses.{Address}
use Rattle.cfg_ast.specs.meaning.Classes.{initial_route, route_by_process, is_announced, is_up_in, area_interface_in}
use Rattle.cfg_ast.specs.meaning.Topology.{line_has_address, process_has_address, is_in_area_interface, cost_of_interface, default_cost_of, type_of}
use Rattle.cfg_ast.specs.printing.Bare.{bare_address}
use Rattle.srp_core.specs.ProblemOf.{start_route, route_from}
use Rattle.config_emit.specs.Emitted.{emitted_router, written_bgp, ospf_of, ospf_on, host_area_line, area_number}
use Rattle.config_emit.specs.Interfaces.{interface_in, class_interface, class_interfaces, link_interfaces, cost_over}
use Rattle.config_emit.specs.Laws.{IsPlan}
use Rattle.config_emit.specs.Plan.{Plan}
use Rattle.emit_form_laws.proofs.Addresses.{AreApart, interfaces_apart}
use Rattle.emit_form_laws.proofs.Groups.{HasFirst}
use Rattle.emit_form_laws.proofs.Interfaces.{up_in_is}
use Rattle.emit_form_laws.proofs.Origins.{map_some, up_some}
use Rattle.emit_form_laws.proofs.Pairwise.{pick}
use Rattle.emit_origin_laws.proofs.Finds.{any_passes, one_passes, found_is, parts, both}
use Rattle.emit_origin_laws.proofs.Starts.{up_in, subnets_overlap, class_here}

-- the interface by which the first member originates
record HasOrigin (r : Router) (p : Prefix) (cost : ℕ) : Type 0 where
  origin : Interface
  found : area_interface_in r p ≡ Some origin
  costs : cost_of_interface origin ≡ Some cost

origin_of : (r : Router) (p : Prefix) (cost : ℕ) → initial_route r p ≡ Some (Some cost) → HasOrigin r p cost
origin_of r p cost is = step r.bgp is
  where
    by : (b : Bool) → (if b then Some None else None) ≡ Some (Some cost) → ⊥
    by true e = absurd cc
    by false e = absurd cc

    step : (o : Option BgpProcess) → route_by_process r o p ≡ Some (Some cost) → HasOrigin r p cost
    step None is = let m = map_some cost_of_interface (area_interface_in r p) (Some cost) is in record { origin = m.0; found = m.1; costs = m.2 }
    step (Some process) is = absurd (by (is_announced r process p) is)

-- an interface of a process is in its area
in_process : (area : ℕ) (class xs : List Interface) (x : Interface) (a : Address) → In xs x → x.address ≡ Some a →
    process_has_address (ospf_on area class xs) a ≡ true
in_process area class [] x a h has = absurd h
in_process area class (y ∷ xs) x a h has =
    let line : AreaLine = record { addr = a.addr; wild = 0; area = area; line = 0 } in
    any_passes (λ (l : AreaLine). line_has_address l a.addr) (filter_map (host_area_line area) (y ∷ xs)) line
    (in_filter_map (host_area_line area) (y ∷ xs) x line h (ap (option_map (λ (b : Address). record { addr = b.addr; wild = 0; area = area; line = 0 })) has))
    (same_number (bit_or a.addr 0) (bit_or a.addr 0) refl)

module _ (e : Plan) (plan : IsPlan e) (few : length e.links ≤ 1048576) (ospf : e.problem.protocol ≡ OverOspf) (p : Prefix) (at : Contains e.class.prefixes p)
    (g : ℕ) (first : HasFirst e g) (cost : ℕ) (is : initial_route first.router p ≡ Some (Some cost)) where
  pub ospf_start : start_route p (emitted_router e g) ≡ start_route p first.router
  ospf_start =
      let from = origin_of first.router p cost is in
      let origin = found_is (λ x. is_in_area_interface first.router x && is_up_in p x) first.router.interfaces from.origin from.found in
      let found : interface_in e.problem.protocol first.router p ≡ Some from.origin = ap (λ q. interface_in q first.router p) ospf ∙ from.found in
      let here = class_here e g first p at (ap is_some is) from.origin found in
      let x : Interface = class_interface e.problem.protocol here.0 from.origin in
      let a = up_in_is p from.origin (parts (is_in_area_interface first.router from.origin) (is_up_in p from.origin) origin.1).1 in
      let address : x.address ≡ Some (bare_address a.0) = ap (option_map bare_address) (up_some from.origin a.0 a.1) in
      let x_in : In (class_interfaces e g ++ link_interfaces e g) x = in_left (class_interfaces e g) (link_interfaces e g) x here.1 in
      let in_area : is_in_area_interface (emitted_router e g) x ≡ true =
      ap (λ (o : Option Address). option_map_or (process_has_address (ospf_of e.problem.protocol e g)) o false) address
      ∙ ap (λ q. process_has_address (ospf_of q e g) (bare_address a.0)) ospf
      ∙ in_process (area_number e) (class_interfaces e g) (class_interfaces e g ++ link_interfaces e g) x (bare_address a.0) x_in address in
      let x_up : is_up_in p x ≡ true = up_in p x (bare_address a.0) address a.2 in
      let one : (y : Interface) → In (class_interfaces e g ++ link_interfaces e g) y → (is_in_area_interface (emitted_router e g) y && is_up_in p y) ≡ true →
      y ≡ x =
      λ y h passes. (
      let b = up_in_is p y (parts (is_in_area_interface (emitted_router e g) y) (is_up_in p y) passes).1 in
      let b_is = up_some y b.0 b.1 in
      elim (pick AreApart (class_interfaces e g ++ link_interfaces e g) x y (interfaces_apart e plan few g) x_in h) [
        | inl same ↦ sym same
        | inr (inl away) ↦ absurd (let clear = away.apart (bare_address a.0) b.0 address b_is in let over =
            subnets_overlap b.0 (bare_address a.0) (b.2 ∙ sym a.2) in cc)
        | inr (inr away) ↦ absurd (let clear = away.apart b.0 (bare_address a.0) b_is address in let over =
            subnets_overlap (bare_address a.0) b.0 (a.2 ∙ sym b.2) in cc)
      ]) in
      let area : area_interface_in (emitted_router e g) p ≡ Some x =
      one_passes (λ y. is_in_area_interface (emitted_router e g) y && is_up_in p y) (class_interfaces e g ++ link_interfaces e g) x x_in
      (both (is_in_area_interface (emitted_router e g) x) (is_up_in p x) in_area x_up) one in
      let own : x.cost ≡ Some cost = ap (λ q. cost_over q from.origin) ospf ∙ from.costs in
      let costs : cost_of_interface x ≡ Some cost = ap (λ (o : Option ℕ). if is_some o then o else default_cost_of (type_of x)) own in
      ap (λ (o : Option BgpProcess). option_map (route_from (emitted_router e g)) (route_by_process (emitted_router e g) o p))
      (ap (λ q. written_bgp q e g) ospf)
      ∙ ap (λ (o : Option Interface). option_map (route_from (emitted_router e g)) (option_map cost_of_interface o)) area
      ∙ ap (λ (o : Option ℕ). Some (route_from (emitted_router e g) o)) costs
      ∙ sym (ap (option_map (route_from first.router)) is)
