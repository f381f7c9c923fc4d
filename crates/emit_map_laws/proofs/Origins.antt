-- A router that imports a route originates no prefix of the class, so it has no preference of its own.
use Rattle.std.proofs.Common.{◌≡◌, ℕ, zero, suc, ◌<◌, inl, inr, Bool, true, false, not, ◌&&◌, List, [], ◌∷◌, map, Option, Some, None, refl, sym, ap, ◌∙◌, subst, filter_map, nat_eq}
use Rattle.std.specs.Prelude.{is_some, slice_get, slice_index_or, if◌then◌else◌}
use Rattle.std.specs.List.{cons_option}
use Rattle.std.specs.Option.{option_map, option_map_or}
use Rattle.base_kit.specs.Prefixes.{Prefix}
use Rattle.base_kit.specs.declared.protocol.Protocol.{Protocol}
use Rattle.base_kit.specs.declared.protocol.Protocol.TheVariants.{Bgp as OverBgp, Ospf as OverOspf}
use Rattle.base_kit.proofs.Elements.{In, contains_in}
use Rattle.cfg_ast.specs.declared.bgp.Base.{Base}
use Rattle.cfg_ast.specs.declared.bgp.BgpProcess.{BgpProcess}
use Rattle.cfg_ast.specs.declared.bgp.NetLine.{NetLine}
use Rattle.cfg_ast.specs.declared.network.Router.{Router}
use Rattle.cfg_ast.specs.meaning.Classes.{initial_route}
use Rattle.abstract_net.specs.Links.{QuotientCarries}
use Rattle.abstract_net.specs.declared.qlink.QLink.{QLink}
use Rattle.specialize.specs.OnePrefix.{own_preference}
use Rattle.srp_core.specs.declared.route.Act.{Act}
use Rattle.srp_core.specs.declared.route.Route.{Route}
use Rattle.srp_core.specs.Problem.{count, initial, number}
use Rattle.srp_core.specs.ProblemOf.{start_route, route_from}
use Rattle.config_emit.specs.Emitted.{emitted_router, process_of, written_bgp, class_line_of, net_lines, base_of, written_base}
use Rattle.config_emit.specs.Laws.{IsPlan}
use Rattle.config_emit.specs.Plan.{Plan, small, first_router_of, act_into}
use Rattle.srp_quotient.specs.Groups.{first_member, touches}
use Rattle.emit_form_laws.proofs.Acts.{act_between}
use Rattle.emit_form_laws.proofs.Groups.{first_of, problem_of, end_of}

no_start : (p : Prefix) (r : Router) → start_route p r ≡ None → initial_route r p ≡ None
no_start p r e = step (initial_route r p) e
  where
    step : (o : Option (Option ℕ)) → option_map (route_from r) o ≡ None → o ≡ None
    step None e = refl
    step (Some x) e = absurd cc

start_at : (p : Prefix) (rs : List Router) (k : ℕ) (r : Router) → slice_get rs k ≡ Some r → slice_index_or (map (start_route p) rs) k None ≡ start_route p r
start_at p [] k r e = absurd cc
start_at p (x ∷ rs) zero r e = let same : x ≡ r = cc in ap (start_route p) same
start_at p (x ∷ rs) (suc k) r e = start_at p rs k r e

no_lines : (r : Router) (ps : List Prefix) → ((p : Prefix) → In ps p → initial_route r p ≡ None) → filter_map (class_line_of r) ps ≡ []
no_lines r [] none = refl
no_lines r (p ∷ ps) none =
    ap (λ (o : Option (Option ℕ)). cons_option (if is_some o then Some (record { prefix = p; line = 0 }) else None) (filter_map (class_line_of r) ps))
    (none p (inl refl))
    ∙ no_lines r ps (λ q i. none q (inr i))

based_on : (o : Option Router) (lines : List NetLine) → lines ≡ [] → option_map_or (base_of lines) o None ≡ None
based_on None lines none = refl
based_on (Some r) lines none = ap (λ (ls : List NetLine). base_of ls r) none

no_base : (e : Plan) (g : ℕ) → written_base e g ≡ None → own_preference (emitted_router e g) true ≡ None
no_base e g none = step (written_bgp e.problem.protocol e g) (of e.problem.protocol)
  where
    HasNoBase : Option BgpProcess → Type 0
    HasNoBase None = Unit {0}
    HasNoBase (Some process) = process.base ≡ None

    of : (q : Protocol) → HasNoBase (written_bgp q e g)
    of OverOspf = tt
    of OverBgp = by (nat_eq (number (small e) g) 0)
      where
        by : (b : Bool) → HasNoBase (if b then None else Some (process_of e g))
        by true = tt
        by false = none

    hundred : (o : Option Base) → o ≡ None →
        (if true && not (nat_eq (option_map_or (λ (base : Base). base.value) o 100) 100) then Some (option_map_or (λ (base : Base). base.value) o 100)
        else None) ≡ None
    hundred None e = refl
    hundred (Some x) e = absurd cc

    step : (o : Option BgpProcess) → HasNoBase o →
        (let v = option_map_or (λ (process : BgpProcess). option_map_or (λ (base : Base). base.value) process.base 100) o 100 in
        if true && not (nat_eq v 100) then Some v else None) ≡ None
    step None is = refl
    step (Some process) is = hundred process.base is

pub no_own : (e : Plan) → IsPlan e → QuotientCarries → e.problem.protocol ≡ OverBgp → (g : ℕ) (l : QLink) → In e.links l → touches g l ≡ true → (act : Act) →
    act_into e g l ≡ Some act → own_preference (emitted_router e g) true ≡ None
no_own e plan law bgp g l at touched act is =
    let end = end_of e plan law g l at touched in
    let edge = act_between e plan law g end.0 l at end.1 act is in
    let first = first_of e plan g end.1.here in
    let rules = (problem_of e plan).of.rules in
    let importer_in = (rules.edges.inside edge.edge edge.has).importer_in in
    let first_in : first_member e.groups g < count e.problem = subst (λ (n : ℕ). first_member e.groups g < n) plan.groups.total first.inside in
    let alike = plan.groups.origins (first_member e.groups g) edge.edge.importer first_in importer_in (first.group ∙ sym edge.importer) in
    let none : initial e.problem (first_member e.groups g) ≡ None = alike ∙ rules.starts.unoriginated bgp edge.edge edge.has in
    let here : (p : Prefix) → In e.class.prefixes p → initial_route first.router p ≡ None =
    λ p i. (let of = plan.problem p (contains_in e.class.prefixes p i) in
    no_start p first.router (sym (start_at p e.network.routers (first_member e.groups g) first.router first.at)
    ∙ sym (ap (λ (l : List (Option Route)). slice_index_or l (first_member e.groups g) None) of.init) ∙ none)) in
    let lines : option_map_or (λ r. filter_map (class_line_of r) e.class.prefixes) (first_router_of e g) [] ≡ [] =
    ap (λ (o : Option Router). option_map_or (λ r. filter_map (class_line_of r) e.class.prefixes) o []) first.at
    ∙ no_lines first.router e.class.prefixes here in
    no_base e g (based_on (first_router_of e g) (net_lines e g) lines)
