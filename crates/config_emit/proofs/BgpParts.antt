-- The parts of a router of a BGP network of groups.
use Rattle.std.proofs.Common.{◌≡◌, ℕ, ◌-◌, Bool, true, false, cond, List, [], ◌∷◌, ◌++◌, map, filter, Option, Some, None, nat_eq, refl, sym, ◌∙◌, ap, subst, inl, inr, arith}
use Rattle.std.specs.Prelude.{filter_map, flat_map, is_some, slice_get, slice_index_or}
use Rattle.std.specs.List.{enumerate_from, list_any, cons_option}
use Rattle.std.specs.Option.{option_map, option_map_or, option_and_then}
use Rattle.std.proofs.lemmas.Bool.Decides.{nat_tests}
use Rattle.base_kit.specs.Prefixes.{Prefix}
use Rattle.base_kit.specs.declared.protocol.Protocol.{Protocol}
use Rattle.base_kit.specs.declared.protocol.Protocol.TheVariants.{Bgp as OverBgp}
use Rattle.base_kit.proofs.Elements.{In, contains_in}
use Rattle.cfg_ast.specs.declared.bgp.Base.{Base}
use Rattle.cfg_ast.specs.declared.bgp.BgpProcess.{BgpProcess}
use Rattle.cfg_ast.specs.declared.bgp.Neighbor.{Neighbor}
use Rattle.cfg_ast.specs.declared.bgp.NetLine.{NetLine}
use Rattle.cfg_ast.specs.declared.interface.Interface.{Interface}
use Rattle.cfg_ast.specs.declared.network.Named.{Named}
use Rattle.cfg_ast.specs.declared.network.Router.{Router}
use Rattle.cfg_ast.specs.declared.ospf.OspfProcess.{OspfProcess}
use Rattle.cfg_ast.specs.declared.policy.CommunityList.{CommunityList}
use Rattle.cfg_ast.specs.declared.policy.PrefixList.{PrefixList}
use Rattle.cfg_ast.specs.declared.policy.RouteMap.{RouteMap}
use Rattle.cfg_ast.specs.meaning.Classes.{initial_route}
use Rattle.abstract_net.specs.declared.qlink.QLink.{QLink}
use Rattle.route_maps.specs.Same.{same_map}
use Rattle.route_maps.specs.declared.plain.Plain.{Plain}
use Rattle.srp_core.specs.Problem.{initial, number}
use Rattle.srp_quotient.specs.Groups.{first_member, touches, quotient_problem}
use Rattle.config_emit.specs.ActLinks.{act_to, act_link}
use Rattle.config_emit.specs.BgpSteps.{announced, neighbor_of}
use Rattle.config_emit.specs.Emitted.{class_line_of, net_lines, base_of, written_base, neighbor_at, process_of, written_bgp, ospf_of, emitted_router}
use Rattle.config_emit.specs.GroupMaps.{plain_now, plains_now}
use Rattle.config_emit.specs.Interfaces.{class_interfaces, is_at, links_at, link_interfaces, link_address, side_number}
use Rattle.config_emit.specs.MapNumbers.{map_number, KnowsClosed, AreKnown}
use Rattle.config_emit.specs.Maps.{other_end, act_in_map, act_out_map, sends_by, maps_at, maps_over, maps_of, name_of_map, lists_of_map, written_map}
use Rattle.config_emit.specs.Plan.{Plan, small, act_into}
use Rattle.config_emit.specs.RouterMaps.{use_now, use_of, with_uses, act_into_end, uses_on, use_name}
use Rattle.config_emit.specs.Sources.{IsSound, HasGroupNumbers}
use Rattle.config_emit.specs.declared.act_maps.ActMaps.{ActMaps}
use Rattle.config_emit.specs.declared.router_maps.MapUse.{MapUse}
use Rattle.config_emit.proofs.FirstUses.{uses_by_first, firsts_in, name_is_used, out_name_is_used, other_touches, end_is, all_uses, knows_into, knows_out, uses_known}
use Rattle.config_emit.proofs.OspfRouters.{starts_same}

-- ---- `network` lines

no_lines : (r : Router) (ps : List Prefix) → ((p : Prefix) → In ps p → is_some (initial_route r p) ≡ false) → filter_map (class_line_of r) ps ≡ []
no_lines r [] none = refl
no_lines r (p ∷ ps) none = ap (λ b. cons_option (cond b (Some (announced p)) None) (filter_map (class_line_of r) ps)) (none p (inl refl))
    ∙ no_lines r ps (λ o at. none o (inr at))

all_lines : (r : Router) (ps : List Prefix) → ((p : Prefix) → In ps p → is_some (initial_route r p) ≡ true) → map announced ps ≡ filter_map (class_line_of r) ps
all_lines r [] some = refl
all_lines r (p ∷ ps) some =
    ap (λ ls. announced p ∷ ls) (all_lines r ps (λ o at. some o (inr at)))
    ∙ sym (ap (λ b. cons_option (cond b (Some (announced p)) None) (filter_map (class_line_of r) ps)) (some p (inl refl)))

pub no_net_lines : (e : Plan) (g : ℕ) → IsSound e → is_some (initial e.problem (first_member e.groups g)) ≡ false → [] ≡ net_lines e g
no_net_lines e g sound none = step (slice_get e.network.routers (first_member e.groups g)) refl where
  step : (o : Option Router) → slice_get e.network.routers (first_member e.groups g) ≡ o →
      [] ≡ option_map_or (λ r. filter_map (class_line_of r) e.class.prefixes) o []
  step None at = refl
  step (Some r) at = sym (no_lines r e.class.prefixes (λ p has. starts_same e p (first_member e.groups g) r sound (contains_in e.class.prefixes p has) at
      ∙ none))

pub net_lines_are : (e : Plan) (g : ℕ) (r : Router) → IsSound e → slice_get e.network.routers (first_member e.groups g) ≡ Some r →
    is_some (initial e.problem (first_member e.groups g)) ≡ true → map announced e.class.prefixes ≡ net_lines e g
net_lines_are e g r sound at some =
    all_lines r e.class.prefixes (λ p has. starts_same e p (first_member e.groups g) r sound (contains_in e.class.prefixes p has) at ∙ some)
    ∙ sym (ap (λ o. option_map_or (λ r. filter_map (class_line_of r) e.class.prefixes) o []) at)

pub base_is : (e : Plan) (g : ℕ) (r : Router) → slice_get e.network.routers (first_member e.groups g) ≡ Some r → base_of (net_lines e g) r ≡ written_base e g
base_is e g r at = sym (ap (λ o. option_map_or (base_of (net_lines e g)) o None) at)

pub no_base : (e : Plan) (g : ℕ) → slice_get e.network.routers (first_member e.groups g) ≡ None → None ≡ written_base e g
no_base e g at = sym (ap (λ o. option_map_or (base_of (net_lines e g)) o None) at)

-- ---- maps

pub group_uses : (e : Plan) (known : List Plain) (numbers : List ActMaps) (closed g : ℕ) → e.problem.protocol ≡ OverBgp →
    AreKnown known e.problem.acts numbers → KnowsClosed known closed
    → with_uses (flat_map (uses_on known e.problem.acts g) (map (act_link e.problem.protocol e.problem.edges e.links) (links_at e g))) [] ≡ map (use_of known)
    (maps_of e g)
unfolding maps_of links_at
group_uses e known numbers closed g is are knows =
    ap (λ us. with_uses us []) (all_uses e known g 0 e.links)
    ∙ uses_by_first known (flat_map (maps_at e g) (filter (touches g) e.links)) (uses_known e known numbers closed g are knows)
    ∙ ap (λ q. map (use_of known) (maps_over q e g)) (sym is)

maps_known : (e : Plan) (known : List Plain) (numbers : List ActMaps) (closed g : ℕ) → e.problem.protocol ≡ OverBgp → AreKnown known e.problem.acts numbers →
    KnowsClosed known closed → (u : Plain) → In (maps_of e g) u → list_any (same_map u) known ≡ true
unfolding maps_of
maps_known e known numbers closed g is are knows u at =
    uses_known e known numbers closed g are knows u
    (firsts_in [] (flat_map (maps_at e g) (filter (touches g) e.links)) u (subst (λ q. In (maps_over q e g) u) is at))

second : ℕ × Plain → Plain
second u = u.1

seconds : (known ms : List Plain) → map second (map (use_of known) ms) ≡ ms
unfolding second
seconds known [] = refl
seconds known (m ∷ ms) = ap (λ xs. m ∷ xs) (seconds known ms)

plains : (uses : List MapUse) → plains_now uses ≡ map second (map use_now uses)
unfolding second
plains [] = refl
plains (u ∷ uses) = ap (λ xs. plain_now u ∷ xs) (plains uses)

pub plains_are : (uses : List MapUse) (known ms : List Plain) → map use_now uses ≡ map (use_of known) ms → plains_now uses ≡ ms
plains_are uses known ms are = plains uses ∙ ap (map second) are ∙ seconds known ms

-- ---- numbers

pub numbers_are : (e : Plan) (numbers : List ℕ) → HasGroupNumbers e numbers → numbers ≡ (small e).numbers
unfolding quotient_problem
numbers_are e numbers has = has.are

zero_test : (n : ℕ) → n ≡ 0 → nat_eq n 0 ≡ true
zero_test n e = grind (arith, nat_tests)

more_test : (n : ℕ) → (n ≡ 0 → ⊥) → nat_eq n 0 ≡ false
more_test n e = grind (arith, nat_tests)

-- ---- neighbours

made : ℕ → ℕ → Bool → Option Named → Option Named → Neighbor
made addr remote sends map_in map_out = record {
  addr = addr;
  remote = remote;
  line = 0;
  shut = false;
  sends = sends;
  list_in = None;
  list_out = None;
  map_in =
      map_in;
  map_out = map_out;
}

neighbor_is : (e : Plan) (known : List Plain) (numbers : List ActMaps) (closed g : ℕ) → e.problem.protocol ≡ OverBgp → AreKnown known e.problem.acts numbers →
    KnowsClosed known closed → (x : ℕ × QLink) → is_at g x ≡ true
    → neighbor_of known e.problem.acts (map (use_of known) (maps_of e g)) (small e).numbers g
    (act_link e.problem.protocol e.problem.edges e.links x) ≡ neighbor_at e g x
unfolding made
neighbor_is e known numbers closed g is are knows (t, l) at =
    let x = act_link e.problem.protocol e.problem.edges e.links (t, l) in
    let far = other_end g l in
    let here_is = end_is e g t l at in
    let far_is = end_is e far t l (other_touches g l) in
    let all = maps_known e known numbers closed g is are knows in
    let us = maps_of e g in
    let addr = (link_address t (1 - side_number g l)).addr in
    let remote = number (small e) far in
    let in_name = name_is_used known us (act_in_map (act_into_end e.problem.acts g x)) (knows_into known e.problem.acts numbers closed are knows (act_to g x))
    all in
    let out_name = out_name_is_used known us (act_out_map (act_into_end e.problem.acts far x)) (knows_out known e.problem.acts numbers are (act_to far x)) all
    in
    ap (λ n. made addr remote (sends_by (act_into_end e.problem.acts far x)) n
    (option_map (use_name (map (use_of known) us)) (option_and_then (map_number known) (act_out_map (act_into_end e.problem.acts far x))))) in_name
    ∙ ap (λ n. made addr remote (sends_by (act_into_end e.problem.acts far x)) (name_of_map us (Some (act_in_map (act_into_end e.problem.acts g x)))) n)
    out_name
    ∙ ap (λ o. made addr remote (sends_by o) (name_of_map us (Some (act_in_map (act_into_end e.problem.acts g x)))) (name_of_map us (act_out_map o))) far_is
    ∙ ap (λ o. made addr remote (sends_by (act_into e far l)) (name_of_map us (Some (act_in_map o))) (name_of_map us (act_out_map (act_into e far l)))) here_is

mapped_agree : {X Y Z : Type 0} (f : Y → Z) (draw : X → Y) (h : X → Z) (p : X → Bool) (xs : List X) → ((x : X) → p x ≡ true → f (draw x) ≡ h x) →
    map f (map draw (filter p xs)) ≡ map h (filter p xs)
mapped_agree f draw h p [] same = refl
mapped_agree {X} {Y} {Z} f draw h p (x ∷ xs) same = step (mapped_agree f draw h p xs same) (p x) refl where
  step : map f (map draw (filter p xs)) ≡ map h (filter p xs) → (b : Bool) → p x ≡ b →
      map f (map draw (cond b (x ∷ filter p xs) (filter p xs))) ≡ map h (cond b (x ∷ filter p xs) (filter p xs))
  step later true e = ap (λ z. z ∷ map f (map draw (filter p xs))) (same x e) ∙ ap (λ zs. h x ∷ zs) later
  step later false e = later

pub neighbors_are : (e : Plan) (known : List Plain) (numbers : List ActMaps) (closed g : ℕ) → e.problem.protocol ≡ OverBgp →
    AreKnown known e.problem.acts numbers → KnowsClosed known closed
    → map (neighbor_of known e.problem.acts (map (use_of known) (maps_of e g)) (small e).numbers g)
    (map (act_link e.problem.protocol e.problem.edges e.links) (links_at e g)) ≡ map (neighbor_at e g) (links_at e g)
unfolding links_at
neighbors_are e known numbers closed g is are knows =
    mapped_agree (neighbor_of known e.problem.acts (map (use_of known) (maps_of e g)) (small e).numbers g) (act_link e.problem.protocol e.problem.edges e.links)
    (neighbor_at e g) (is_at g) (enumerate_from 0 e.links) (neighbor_is e known numbers closed g is are knows)

-- ---- the process

pub no_process : (e : Plan) (g : ℕ) → number (small e) g ≡ 0 → None ≡ written_bgp OverBgp e g
no_process e g none = sym (ap (λ b. cond b None (Some (process_of e g))) (zero_test (number (small e) g) none))

processed : ℕ → Option Base → List NetLine → List Neighbor → BgpProcess
processed n base networks neighbors = record { number = n; line = 0; base = base; networks = networks; neighbors = neighbors }

pub process_is : (e : Plan) (g n : ℕ) (base : Option Base) (networks : List NetLine) (neighbors : List Neighbor) → (number (small e) g ≡ 0 → ⊥) →
    n ≡ number (small e) g → base ≡ written_base e g → networks ≡ net_lines e g → neighbors ≡ map (neighbor_at e g) (links_at e g)
    → Some (let p : BgpProcess = record { number = n; line = 0; base = base; networks = networks; neighbors = neighbors } in p) ≡ written_bgp OverBgp e g
unfolding processed
process_is e g n base networks neighbors some numbered base_is networks_are neighbors_are =
    ap (λ k. Some (processed k base networks neighbors)) numbered
    ∙ ap (λ b. Some (processed (number (small e) g) b networks neighbors)) base_is
    ∙ ap (λ ns. Some (processed (number (small e) g) (written_base e g) ns neighbors)) networks_are
    ∙ ap (λ ns. Some (processed (number (small e) g) (written_base e g) (net_lines e g) ns)) neighbors_are
    ∙ sym (ap (λ b. cond b None (Some (process_of e g))) (more_test (number (small e) g) some))

-- ---- the router

router : List ℕ → List Interface → Option BgpProcess → Option OspfProcess → List CommunityList → List RouteMap → Router
router name interfaces bgp ospf lists maps =
    record { name = name; line = 0; interfaces = interfaces; bgp = bgp; ospf = ospf; prefix_lists = []; community_lists = lists; route_maps = maps }

pub router_is : (e : Plan) (g : ℕ) (name : List ℕ) (interfaces : List Interface) (bgp : Option BgpProcess) (prefix_lists : List PrefixList)
    (lists : List CommunityList) (maps : List RouteMap) → e.problem.protocol ≡ OverBgp
    → name ≡ slice_index_or (small e).names g [] → interfaces ≡ class_interfaces e g ++ link_interfaces e g → bgp ≡ written_bgp OverBgp e g → prefix_lists ≡ []
    → lists ≡ flat_map lists_of_map (enumerate_from 1 (maps_of e g)) → maps ≡ map (written_map (number (small e) g)) (enumerate_from 1 (maps_of e g))
    → (let r : Router = record {
      name = name;
      line = 0;
      interfaces = interfaces;
      bgp = bgp;
      ospf = None;
      prefix_lists = prefix_lists;
      community_lists = lists;
      route_maps = maps;
    } in r) ≡ emitted_router e g
unfolding router
router_is e g name interfaces bgp prefix_lists lists maps is named are process none lists_are maps_are =
    let names = slice_index_or (small e).names g [] in
    let all = class_interfaces e g ++ link_interfaces e g in
    let written = flat_map lists_of_map (enumerate_from 1 (maps_of e g)) in
    let written_maps = map (written_map (number (small e) g)) (enumerate_from 1 (maps_of e g)) in
    let over : Protocol → Router = λ q. router names all (written_bgp q e g) (ospf_of q e g) written written_maps in
    ap (λ (ls : List PrefixList). let r : Router =
    record { name = name; line = 0; interfaces = interfaces; bgp = bgp; ospf = None; prefix_lists = ls; community_lists = lists; route_maps = maps } in r)
    none
    ∙ ap (λ n. router n interfaces bgp None lists maps) named
    ∙ ap (λ xs. router names xs bgp None lists maps) are
    ∙ ap (λ b. router names all b None lists maps) process
    ∙ ap (λ ls. router names all (written_bgp OverBgp e g) None ls maps) lists_are
    ∙ ap (λ ms. router names all (written_bgp OverBgp e g) None written ms) maps_are
    ∙ ap over (sym is)
