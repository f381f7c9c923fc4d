-- The initial routes of the network of the groups are those of the problem of the groups.
use Rattle.std.proofs.Common.{◌≡◌, ℕ, ◌<◌, ◌≤◌, Bool, true, false, ◌&&◌, [], length, Option, Some, None, refl, sym, ap, ◌∙◌, subst, arith}
use Rattle.std.specs.Prelude.{is_some, Contains, if◌then◌else◌}
use Rattle.std.specs.List.{list_any, range_with_len}
use Rattle.std.specs.Option.{option_map}
use Rattle.base_kit.specs.Prefixes.{Prefix, same_prefix}
use Rattle.base_kit.specs.declared.protocol.Protocol.{Protocol}
use Rattle.base_kit.specs.declared.protocol.Protocol.TheVariants.{Bgp as OverBgp, Ospf as OverOspf}
use Rattle.base_kit.proofs.Elements.{In, range_in}
use Rattle.cfg_ast.specs.declared.bgp.BgpProcess.{BgpProcess}
use Rattle.cfg_ast.specs.declared.bgp.NetLine.{NetLine}
use Rattle.cfg_ast.specs.declared.interface.Interface.{Interface}
use Rattle.cfg_ast.specs.declared.network.Router.{Router}
use Rattle.cfg_ast.specs.meaning.Classes.{initial_route, route_by_process, is_up_in}
use Rattle.cfg_ast.specs.meaning.Policy.{default_preference}
use Rattle.cfg_ast.specs.meaning.Topology.{is_in_area_interface, cost_of_interface}
use Rattle.srp_core.specs.Problem.{initial}
use Rattle.srp_core.specs.ProblemOf.{start_route, route_from}
use Rattle.srp_core.specs.Routes.{IsRouteOf}
use Rattle.srp_core.specs.declared.route.Route.TheVariants.{Bgp, Ospf}
use Rattle.srp_quotient.specs.Groups.{first_member, quotient_problem}
use Rattle.config_emit.specs.Emitted.{emitted, emitted_router}
use Rattle.config_emit.specs.Laws.{IsPlan}
use Rattle.config_emit.specs.Plan.{Plan}
use Rattle.emit_form_laws.specs.Laws.{GroupsHaveFewLinks}
use Rattle.emit_form_laws.proofs.Groups.{HasFirst, first_of, problem_of}
use Rattle.emit_origin_laws.specs.Laws.{GroupsOriginate}
use Rattle.emit_origin_laws.proofs.Finds.{none_passes, passing, parts, not_true, maps_agree}
use Rattle.emit_origin_laws.proofs.Starts.{first_start, only_class}
use Rattle.emit_origin_laws.proofs.BgpOrigins.{bgp_start}
use Rattle.emit_origin_laws.proofs.OspfOrigins.{ospf_start}

-- a router none of whose interfaces is in the prefix originates nothing
silent : (r : Router) (p : Prefix) → ((x : Interface) → In r.interfaces x → is_up_in p x ≡ true → ⊥) → initial_route r p ≡ None
silent r p none = step r.bgp
  where
    own : Option (Option ℕ) → Bool → Option (Option ℕ)
    own o b = if b then o else None

    nothing : list_any (is_up_in p) r.interfaces ≡ false
    nothing = not_true (list_any (is_up_in p) r.interfaces) (λ some. let x = passing (is_up_in p) r.interfaces some in none x.0 x.1 x.2)

    closed : (a b : Bool) → b ≡ false → own (Some None) (a && b) ≡ None
    closed true b e = ap (own (Some None)) e
    closed false b e = refl

    step : (o : Option BgpProcess) → route_by_process r o p ≡ None
    step None = ap (option_map cost_of_interface)
        (none_passes (λ x. is_in_area_interface r x && is_up_in p x) r.interfaces
        (λ x h passes. none x h (parts (is_in_area_interface r x) (is_up_in p x) passes).1))
    step (Some process) = closed (list_any (λ (line : NetLine). same_prefix p line.prefix) process.networks) (list_any (is_up_in p) r.interfaces) nothing

start : (e : Plan) (plan : IsPlan e) → length e.links ≤ 1048576 → (p : Prefix) → Contains e.class.prefixes p → (g : ℕ) → g < e.count → (first : HasFirst e g) →
    start_route p (emitted_router e g) ≡ start_route p first.router
start e plan few p at g below first = step e.problem.protocol (initial_route first.router p) refl refl
  where
    fits : (o : Option ℕ) → initial_route first.router p ≡ Some o → IsRouteOf e.problem.protocol (route_from first.router o)
    fits o is = (problem_of e plan).of.rules.starts.routes (first_member e.groups g) (route_from first.router o)
        (first_start e plan p at g first ∙ ap (option_map (route_from first.router)) is)

    step : (q : Protocol) (o : Option (Option ℕ)) → e.problem.protocol ≡ q → initial_route first.router p ≡ o →
        start_route p (emitted_router e g) ≡ start_route p first.router
    step q None over is =
        ap (option_map (route_from (emitted_router e g)))
        (silent (emitted_router e g) p (λ x h up. (let some = only_class e plan few g first p at x h up in let none = ap is_some is in cc)))
        ∙ sym (ap (option_map (route_from first.router)) is)
    step OverBgp (Some None) over is = bgp_start e plan over p at g below first is
    step OverOspf (Some None) over is = absurd (subst (λ q. IsRouteOf q (Bgp (default_preference first.router) [] [])) over (fits None is))
    step OverBgp (Some (Some cost)) over is = absurd (subst (λ q. IsRouteOf q (Ospf cost)) over (fits (Some cost) is))
    step OverOspf (Some (Some cost)) over is = ospf_start e plan few over p at g first cost is

pub originate : GroupsHaveFewLinks → GroupsOriginate
unfolding emitted quotient_problem
originate few e plan p at =
    maps_agree (start_route p) (emitted_router e) (λ g. initial e.problem (first_member e.groups g)) (range_with_len 0 e.count)
    (λ g h.
    let below : g < e.count = let r = range_in 0 e.count g h in omega arith in
    let first = first_of e plan g below in
    start e plan (few e plan) p at g below first ∙ sym (first_start e plan p at g first))
