-- In BGP the router of a group announces what the first member announces, with its default preference.
use Rattle.std.proofs.Common.{◌≡◌, ◌≢◌, ℕ, zero, suc, ◌<◌, Bool, true, false, ◌||◌, List, [], ◌∷◌, ◌++◌, length, map, Option, Some, None, refl, sym, ap, ◌∙◌, subst, arith, nat_eq, filter_map}
use Rattle.std.specs.Prelude.{is_some, slice_get, slice_index, Contains, if◌then◌else◌}
use Rattle.std.specs.List.{list_any}
use Rattle.std.specs.Option.{option_map, option_map_or}
use Rattle.std.proofs.lemmas.Bool.Decides.{nat_tests}
use Rattle.base_kit.specs.Prefixes.{Prefix, same_prefix}
use Rattle.base_kit.specs.declared.protocol.Protocol.TheVariants.{Bgp as OverBgp}
use Rattle.base_kit.proofs.Elements.{In, in_contains, in_filter_map, in_left}
use Rattle.base_kit.proofs.SetFacts.{other_number}
use Rattle.cfg_ast.specs.declared.bgp.Base.{Base}
use Rattle.cfg_ast.specs.declared.bgp.BgpProcess.{BgpProcess}
use Rattle.cfg_ast.specs.declared.bgp.NetLine.{NetLine}
use Rattle.cfg_ast.specs.declared.interface.Interface.{Interface}
use Rattle.cfg_ast.specs.declared.network.Router.{Router}
use Rattle.cfg_ast.specs.meaning.Classes.{initial_route, route_by_process, is_announced, is_up_in}
use Rattle.cfg_ast.specs.meaning.Policy.{default_preference}
use Rattle.cfg_ast.specs.printing.Bare.{bare_address}
use Rattle.srp_core.specs.Problem.{initial, number}
use Rattle.srp_core.specs.ProblemOf.{as_number_of, start_route, route_from}
use Rattle.srp_core.specs.declared.route.Route.{Route}
use Rattle.srp_core.specs.declared.route.Route.TheVariants.{Bgp}
use Rattle.srp_quotient.specs.Groups.{first_member, is_used, touches}
use Rattle.srp_core.specs.Quotient.{first_number}
use Rattle.config_emit.specs.Emitted.{emitted_router, process_of, written_bgp, class_line_of, net_lines, base_of}
use Rattle.config_emit.specs.Interfaces.{interface_in, class_interface, class_interfaces, link_interfaces}
use Rattle.config_emit.specs.Laws.{IsPlan}
use Rattle.config_emit.specs.Plan.{Plan, small}
use Rattle.emit_form_laws.proofs.Groups.{HasFirst, first_some, number_at, problem_of}
use Rattle.emit_form_laws.proofs.Interfaces.{up_in_is}
use Rattle.emit_form_laws.proofs.Origins.{up_some}
use Rattle.emit_origin_laws.proofs.Finds.{any_passes, found_first, found_is, parts, both}
use Rattle.emit_origin_laws.proofs.Starts.{first_start, same_prefix_self, up_in, class_here}

number_from : (rs : List Router) (k : ℕ) (r : Router) → slice_get rs k ≡ Some r → slice_index (map as_number_of rs) k ≡ as_number_of r
number_from [] k r e = absurd cc
number_from (x ∷ rs) zero r e = let same : x ≡ r = cc in ap as_number_of same
number_from (x ∷ rs) (suc k) r e = number_from rs k r e

-- what the first member announces
record Announces (r : Router) (p : Prefix) : Type 0 where
  process : BgpProcess
  has : r.bgp ≡ Some process
  announced : is_announced r process p ≡ true

announces : (r : Router) (p : Prefix) → as_number_of r ≢ 0 → initial_route r p ≡ Some None → Announces r p
announces r p some is = step r.bgp refl some is
  where
    own : Option (Option ℕ) → Bool → Option (Option ℕ)
    own o b = if b then o else None

    by : (b : Bool) → own (Some None) b ≡ Some None → b ≡ true
    by true e = refl
    by false e = absurd cc

    step : (o : Option BgpProcess) → r.bgp ≡ o → option_map_or (λ (process : BgpProcess). process.number) o 0 ≢ 0 → route_by_process r o p ≡ Some None →
        Announces r p
    step None has some is = absurd (some refl)
    step (Some process) has some is = record { process = process; has = has; announced = by (is_announced r process p) is }

-- ---- the default preference

is_hundred : (n : ℕ) → nat_eq n 100 ≡ true → n ≡ 100
is_hundred n e = grind (arith, nat_tests)

based : (n : ℕ) → option_map_or (λ (base : Base). base.value) (if nat_eq n 100 then None else Some (record { value = n; line = 0 })) 100 ≡ n
based n = step (nat_eq n 100) refl
  where
    step : (b : Bool) → nat_eq n 100 ≡ b → option_map_or (λ (base : Base). base.value) (if b then None else Some (record { value = n; line = 0 })) 100 ≡ n
    step true e = sym (is_hundred n e)
    step false e = refl

module _ (e : Plan) (plan : IsPlan e) (bgp : e.problem.protocol ≡ OverBgp) (p : Prefix) (at : Contains e.class.prefixes p) (g : ℕ) (below : g < e.count)
    (first : HasFirst e g) (is : initial_route first.router p ≡ Some None) where
  starts : initial e.problem (first_member e.groups g) ≡ Some (Bgp (default_preference first.router) [] [])
  starts = first_start e plan p at g first ∙ ap (option_map (route_from first.router)) is

  first_number_some : number e.problem (first_member e.groups g) ≢ 0
  first_number_some = ((problem_of e plan).of.rules.numbers bgp).originators (first_member e.groups g) _ starts

  numbered : as_number_of first.router ≢ 0
  numbered same = first_number_some (ap (λ (ns : List ℕ). slice_index ns (first_member e.groups g)) (problem_of e plan).of.numbers
      ∙ number_from e.network.routers (first_member e.groups g) first.router first.at ∙ same)

  has_number : number (small e) g ≢ 0
  has_number same =
      let inside : first_member e.groups g < length e.problem.numbers = subst (λ (n : ℕ). first_member e.groups g < n) plan.groups.total first.inside in
      let used : is_used e.problem e.groups e.links g ≡ true = ap (λ (o : Option Route). is_some o || list_any (touches g) e.links) starts in
      first_some e.problem.numbers e.groups g (first_member e.groups g) inside plan.groups.total first.group first_number_some
      (sym (ap (λ (b : Bool). if b then first_number e.problem.numbers e.groups g else 0) used) ∙ sym (number_at e g below) ∙ same)

  process : (emitted_router e g).bgp ≡ Some (process_of e g)
  process = ap (λ q. written_bgp q e g) bgp ∙ ap (λ (b : Bool). if b then None else Some (process_of e g)) (other_number (number (small e) g) 0 has_number)

  net : In (net_lines e g) (record { prefix = p; line = 0 })
  net =
      let line : NetLine = record { prefix = p; line = 0 } in
      let made : class_line_of first.router p ≡ Some line = ap (λ (o : Option (Option ℕ)). if is_some o then Some line else None) is in
      subst (λ (o : Option Router). In (option_map_or (λ r. filter_map (class_line_of r) e.class.prefixes) o []) line) (sym first.at)
      (in_filter_map (class_line_of first.router) e.class.prefixes p line (in_contains e.class.prefixes p at) made)

  up : list_any (is_up_in p) (emitted_router e g).interfaces ≡ true
  up =
      let from = announces first.router p numbered is in
      let o = found_first (is_up_in p) first.router.interfaces
      (parts (list_any (λ (line : NetLine). same_prefix p line.prefix) from.process.networks) (list_any (is_up_in p) first.router.interfaces)
      from.announced).1 in
      let origin = found_is (is_up_in p) first.router.interfaces o.0 o.1 in
      let found : interface_in e.problem.protocol first.router p ≡ Some o.0 = ap (λ q. interface_in q first.router p) bgp ∙ o.1 in
      let here = class_here e g first p at (ap is_some is) o.0 found in
      let a = up_in_is p o.0 origin.1 in
      let x : Interface = class_interface e.problem.protocol here.0 o.0 in
      any_passes (is_up_in p) (class_interfaces e g ++ link_interfaces e g) x (in_left (class_interfaces e g) (link_interfaces e g) x here.1)
      (up_in p x (bare_address a.0) (ap (option_map bare_address) (up_some o.0 a.0 a.1)) a.2)

  announced : initial_route (emitted_router e g) p ≡ Some None
  announced =
      ap (λ (o : Option BgpProcess). route_by_process (emitted_router e g) o p) process
      ∙ ap (λ (b : Bool). if b then Some None else None)
      (both (list_any (λ (line : NetLine). same_prefix p line.prefix) (net_lines e g)) (list_any (is_up_in p) (emitted_router e g).interfaces)
      (any_passes (λ (line : NetLine). same_prefix p line.prefix) (net_lines e g) (record { prefix = p; line = 0 }) net (same_prefix_self p)) up)

  preference : default_preference (emitted_router e g) ≡ default_preference first.router
  preference =
      ap (λ (o : Option BgpProcess). option_map_or (λ (process : BgpProcess). option_map_or (λ (base : Base). base.value) process.base 100) o 100) process
      ∙ ap (λ (o : Option Router). option_map_or (λ (base : Base). base.value) (option_map_or (base_of (net_lines e g)) o None) 100) first.at
      ∙ by (net_lines e g) net
    where
      by : (lines : List NetLine) → In lines (record { prefix = p; line = 0 }) →
          option_map_or (λ (base : Base). base.value) (base_of lines first.router) 100 ≡ default_preference first.router
      by [] h = absurd h
      by (line ∷ lines) h = based (default_preference first.router)

  pub bgp_start : start_route p (emitted_router e g) ≡ start_route p first.router
  bgp_start =
      ap (option_map (route_from (emitted_router e g))) announced
      ∙ ap (λ n. Some (Bgp n [] [])) preference
      ∙ sym (ap (option_map (route_from first.router)) is)
