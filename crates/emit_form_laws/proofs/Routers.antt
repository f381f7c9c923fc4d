-- The network of the groups is as the grammar has it, its notes are notes, and its lines are short.
use Rattle.std.proofs.Common.{◌≡◌, ℕ, ◌<◌, ◌≤◌, true, List, [], ◌++◌, map, length, inl, inr, sym, ◌∙◌, ap, subst, arith}
use Rattle.std.specs.Prelude.{slice_index, slice_index_or, ◌==◌}
use Rattle.std.specs.Option.{option_map}
use Rattle.std.specs.List.{AllByRecursion, range_with_len}
use Rattle.std.proofs.lemmas.List.FromFn.{length-map-range_with_len}
use Rattle.std.proofs.lemmas.Option.{get_or_from_slice_get, slice_get-map}
use Rattle.base_kit.specs.Partition.{members_of}
use Rattle.base_kit.proofs.Elements.{map_in, append_in, filter_in, range_in, get_in}
use Rattle.cfg_ast.specs.declared.network.Router.{Router}
use Rattle.cfg_ast.specs.printing.WellFormed.{IsBetween, IsWellFormedInterface, same_interface, IsWellFormedRouter, IsWellFormed}
use Rattle.cfg_ast.specs.text.Words.{is_router_name}
use Rattle.cfg_round_trip.specs.Laws.{ShortNamesGiveShortLines}
use Rattle.cfg_round_trip.specs.Notes.{IsRouterName, AreNotes}
use Rattle.cfg_round_trip.specs.ShortMaps.{HasShortMaps}
use Rattle.abstract_net.specs.Links.{QuotientCarries}
use Rattle.route_maps.specs.declared.plain.Plain.{Plain}
use Rattle.srp_core.specs.Problem.{number}
use Rattle.config_emit.specs.Laws.{IsPlan, EmittedCanBePrinted}
use Rattle.config_emit.specs.Emitted.{emitted_router, emitted, group_name, notes_of}
use Rattle.config_emit.specs.Interfaces.{class_interfaces, link_interfaces}
use Rattle.config_emit.specs.Plan.{Plan, small}
use Rattle.emit_form_laws.specs.Laws.{GroupsHaveFewLinks}
use Rattle.emit_form_laws.proofs.Groups.{problem_of, groups_total, first_of, get_at, name_is, end_of, linked}
use Rattle.emit_form_laws.proofs.Interfaces.{class_at, link_at, class_form, link_form, interface_names}
use Rattle.emit_form_laws.proofs.MapForms.{lists_form, lists_once, maps_form, maps_once, maps_short}
use Rattle.emit_form_laws.proofs.Origins.{router_forms}
use Rattle.emit_form_laws.proofs.Pairwise.{all_from, distinct_from}
use Rattle.emit_form_laws.proofs.Policies.{IsMapAt}
use Rattle.emit_form_laws.proofs.Processes.{number_form, bgp_form, ospf_form}

map_number : (e : Plan) → IsPlan e → QuotientCarries → (g k : ℕ) (m : Plain) → IsMapAt e g k m → IsBetween 1 4294967295 (number (small e) g)
map_number e plan law g k m at =
    let end = end_of e plan law g at.of.link at.of.link_in at.of.touched in
    number_form e plan g end.1.here (linked e plan law at.of.over g at.of.link at.of.link_in at.of.touched)

router_name : (e : Plan) → IsPlan e → (g : ℕ) → g < e.count → is_router_name (slice_index_or (small e).names g []) ≡ true
router_name e plan g below =
    let f = first_of e plan g below in
    ap is_router_name (name_is e plan g below f) ∙ (router_forms e.network plan.well_formed f.router f.is_in).name

router_form : (e : Plan) → IsPlan e → QuotientCarries → length e.links ≤ 1048576 → (g : ℕ) → g < e.count → IsWellFormedRouter (emitted_router e g)
router_form e plan law few g below =
    let class = all_from IsWellFormedInterface (class_interfaces e g) (λ x h. class_form e plan g x (class_at e g x h)) in
    let all =
    all_from IsWellFormedInterface (class_interfaces e g ++ link_interfaces e g)
    (λ x h. elim (append_in (class_interfaces e g) (link_interfaces e g) x h)
    [ inl a ↦ class_form e plan g x (class_at e g x a) | inr b ↦ link_form e plan law few g x (link_at e g x b) ]) in
    record {
      name = router_name e plan g below;
      interfaces = all;
      interfaces_once = distinct_from same_interface (class_interfaces e g ++ link_interfaces e g) (interface_names e plan few g);
      bgp = bgp_form e plan law few g below;
      ospf = ospf_form e plan few g class all;
      prefix_lists = tt;
      prefix_lists_once = distinct_from _ [] tt;
      community_lists = lists_form e plan few g;
      community_lists_once = lists_once e plan few g;
      route_maps = maps_form e plan few g (number (small e) g) (map_number e plan law g);
      route_maps_once = maps_once e few g (number (small e) g);
    }

-- what holds of the router of each group holds of each router
pub each_router : (e : Plan) (P : Router → Type 0) → ((g : ℕ) → g < e.count → P (emitted_router e g)) → AllByRecursion P (emitted e).routers
unfolding emitted
each_router e P holds =
    all_from P (map (emitted_router e) (range_with_len 0 e.count))
    (λ r h. let m = map_in (emitted_router e) (range_with_len 0 e.count) r h in let below = range_in 0 e.count m.0 m.1 in subst P m.2 (holds m.0 (omega arith)))

form : (e : Plan) → IsPlan e → QuotientCarries → length e.links ≤ 1048576 → IsWellFormed (emitted e)
form e plan law few = record { routers = each_router e IsWellFormedRouter (router_form e plan law few) }

-- the name of a member of a group
member_name : (e : Plan) → IsPlan e → (u : ℕ) → u < length e.groups → is_router_name (group_name e u) ≡ true
member_name e plan u below =
    let total = groups_total e plan in
    let r = get_at e.network.routers u (omega arith) in
    ap (λ (names : List (List ℕ)). is_router_name (slice_index_or names u [])) (problem_of e plan).of.names
    ∙ ap is_router_name (get_or_from_slice_get (map (λ (q : Router). q.name) e.network.routers) u r.0.name []
    (slice_get-map (λ (q : Router). q.name) e.network.routers u ∙ ap (option_map (λ (q : Router). q.name)) r.1))
    ∙ (router_forms e.network plan.well_formed r.0 (get_in e.network.routers u r.0 r.1)).name

notes : (e : Plan) → IsPlan e → AreNotes (emitted e) (notes_of e)
unfolding emitted notes_of
notes e plan = record {
  total = length-map-range_with_len (λ g. map (group_name e) (members_of e.groups g)) 0 e.count ∙ sym (length-map-range_with_len (emitted_router e) 0 e.count);
  names = all_from (AllByRecursion IsRouterName) (map (λ g. map (group_name e) (members_of e.groups g)) (range_with_len 0 e.count))
      (λ names h.
      let m = map_in (λ g. map (group_name e) (members_of e.groups g)) (range_with_len 0 e.count) names h in
      subst (AllByRecursion IsRouterName) m.2 (all_from IsRouterName (map (group_name e) (members_of e.groups m.0))
      (λ name i.
      let u = map_in (group_name e) (members_of e.groups m.0) name i in
      let inside = range_in 0 (length e.groups) u.0 (filter_in (λ router. slice_index e.groups router == m.0) (range_with_len 0 (length e.groups)) u.0 u.1).0 in
      subst IsRouterName u.2 (member_name e plan u.0 (omega arith)))));
}

short : (e : Plan) → IsPlan e → length e.links ≤ 1048576 → AllByRecursion HasShortMaps (emitted e).routers
short e plan few = each_router e HasShortMaps (λ g below. maps_short e plan few g (number (small e) g))

pub can_be_printed : GroupsHaveFewLinks → QuotientCarries → ShortNamesGiveShortLines → EmittedCanBePrinted
can_be_printed few_links carries short_lines e plan =
    let few = few_links e plan in
    let well = form e plan carries few in
    record { well_formed = well; notes = notes e plan; short = short_lines (emitted e) (notes_of e) well (short e plan few) (notes e plan) }
