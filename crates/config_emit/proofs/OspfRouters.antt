-- The routers of an OSPF network of groups.
use Rattle.std.proofs.Common.{◌≡◌, ℕ, zero, suc, ◌<◌, Bool, true, false, cond, ◌||◌, List, [], ◌∷◌, ◌++◌, map, filter, Option, Some, None, refl, sym, ◌∙◌, ap, arith}
use Rattle.std.specs.Prelude.{flat_map, is_some, slice_get, slice_index_or, Contains, nat_eq, codes, decimal, option_and_then}
use Rattle.std.specs.List.{enumerate_from}
use Rattle.std.specs.Option.{option_map, option_map_or}
use Rattle.std.proofs.lemmas.List.FromFn.{get_or-map-range_with_len}
use Rattle.base_kit.specs.Prefixes.{Prefix}
use Rattle.base_kit.specs.declared.protocol.Protocol.{Protocol}
use Rattle.base_kit.specs.declared.protocol.Protocol.TheVariants.{Ospf as OverOspf}
use Rattle.base_kit.proofs.Elements.{contains_in}
use Rattle.cfg_ast.specs.meaning.Classes.{initial_route}
use Rattle.cfg_ast.specs.declared.bgp.BgpProcess.{BgpProcess}
use Rattle.cfg_ast.specs.declared.interface.Interface.{Interface}
use Rattle.cfg_ast.specs.declared.network.Router.{Router}
use Rattle.cfg_ast.specs.declared.ospf.OspfProcess.{OspfProcess}
use Rattle.cfg_ast.specs.declared.policy.CommunityList.{CommunityList}
use Rattle.cfg_ast.specs.declared.policy.PrefixList.{PrefixList}
use Rattle.cfg_ast.specs.declared.policy.RouteMap.{RouteMap}
use Rattle.abstract_net.specs.declared.qlink.QLink.{QLink}
use Rattle.abstract_net.specs.Carried.{act_at}
use Rattle.srp_core.specs.declared.route.Route.{Route}
use Rattle.srp_core.specs.declared.route.Act.{Act}
use Rattle.srp_core.specs.Problem.{initial, number}
use Rattle.srp_core.specs.ProblemOf.{route_from, start_route}
use Rattle.srp_quotient.specs.Groups.{first_member, touches, edge_into, quotient_problem}
use Rattle.config_emit.specs.ActLinks.{ends_at, act_to, act_link, act_links}
use Rattle.config_emit.specs.Emitted.{area_number, ospf_on, ospf_of, written_bgp, emitted_router}
use Rattle.config_emit.specs.GroupLinks.{group_links}
use Rattle.config_emit.specs.Interfaces.{class_interfaces_on, class_interfaces, is_at, links_at, side_number, link_address, link_interface, link_interfaces, cost_by}
use Rattle.config_emit.specs.LinkSteps.{act_by, interface_of_link}
use Rattle.config_emit.specs.Maps.{maps_over, maps_of, lists_of_map, written_map}
use Rattle.config_emit.specs.Plan.{Plan, small, act_of_place, act_into}
use Rattle.config_emit.specs.Sources.{IsSound, HasLinks}
use Rattle.config_emit.specs.Spots.{OriginatesEach}
use Rattle.config_emit.specs.declared.links_by_group.LinksByGroup.{LinksByGroup}
use Rattle.config_emit.proofs.ClassSpots.{none_served}
use Rattle.config_emit.proofs.ListSteps.{filter_ext, filter_mapped, numbered_agree, numbered_mapped, same_numbers}

-- ---- who originates

start_at : (p : Prefix) (routers : List Router) (u : ℕ) (r : Router) → slice_get routers u ≡ Some r →
    slice_index_or (map (start_route p) routers) u None ≡ start_route p r
start_at p [] u r e = absurd cc
start_at p (s ∷ routers) zero r e = let same : s ≡ r = cc in ap (start_route p) same
start_at p (s ∷ routers) (suc u) r e = start_at p routers u r e

some_kept : (r : Router) (o : Option (Option ℕ)) → is_some (option_map (route_from r) o) ≡ is_some o
some_kept r None = refl
some_kept r (Some cost) = refl

-- a router originates each prefix of the class, or none
pub starts_same : (e : Plan) (p : Prefix) (u : ℕ) (r : Router) → IsSound e → Contains e.class.prefixes p → slice_get e.network.routers u ≡ Some r →
    is_some (initial_route r p) ≡ is_some (initial e.problem u)
starts_same e p u r sound has at =
    sym (ap (λ (init : List (Option Route)). is_some (slice_index_or init u None)) (sound.problem p has).init ∙ ap is_some (start_at p e.network.routers u r at)
    ∙ some_kept r (initial_route r p))

pub originates_each : (e : Plan) (u : ℕ) (r : Router) → IsSound e → slice_get e.network.routers u ≡ Some r → is_some (initial e.problem u) ≡ true →
    OriginatesEach r e.class.prefixes
originates_each e u r sound at some = record { each = λ p has. starts_same e p u r sound has at ∙ some }

-- ---- the interfaces of a class

pub interfaces_of_router : (e : Plan) (g : ℕ) (r : Router) → slice_get e.network.routers (first_member e.groups g) ≡ Some r →
    class_interfaces_on e.problem.protocol e.class.prefixes r ≡ class_interfaces e g
unfolding class_interfaces
interfaces_of_router e g r at = sym (ap (λ o. option_map_or (class_interfaces_on e.problem.protocol e.class.prefixes) o []) at)

pub no_interfaces : (e : Plan) (g : ℕ) → slice_get e.network.routers (first_member e.groups g) ≡ None → [] ≡ class_interfaces e g
unfolding class_interfaces
no_interfaces e g at = sym (ap (λ o. option_map_or (class_interfaces_on e.problem.protocol e.class.prefixes) o []) at)

pub not_originating : (e : Plan) (g : ℕ) → IsSound e → is_some (initial e.problem (first_member e.groups g)) ≡ false → [] ≡ class_interfaces e g
unfolding class_interfaces
not_originating e g sound none = step (slice_get e.network.routers (first_member e.groups g)) refl where
  step : (o : Option Router) → slice_get e.network.routers (first_member e.groups g) ≡ o →
      [] ≡ option_map_or (class_interfaces_on e.problem.protocol e.class.prefixes) o []
  step None at = refl
  step (Some r) at = sym (none_served e.problem.protocol r 1 e.class.prefixes
      (λ p has. starts_same e p (first_member e.groups g) r sound (contains_in e.class.prefixes p has) at ∙ none))

-- ---- the interfaces of links

links_at_act : (e : Plan) (g : ℕ) → filter (ends_at g) (act_links e.problem.protocol e.problem.edges e.links) ≡ map
    (act_link e.problem.protocol e.problem.edges e.links) (links_at e g)
unfolding act_links links_at
links_at_act e g =
    let draw = act_link e.problem.protocol e.problem.edges e.links in
    let all = enumerate_from 0 e.links in
    filter_mapped (ends_at g) draw all ∙ ap (map draw) (filter_ext (λ x. ends_at g (draw x)) (is_at g) all (λ (t, l). refl))

pub links_are : (e : Plan) (g : ℕ) (index : LinksByGroup) → g < e.count → HasLinks e index →
    group_links index g ≡ map (act_link e.problem.protocol e.problem.edges e.links) (links_at e g)
links_are e g index inside has = has.links.each g inside ∙ links_at_act e g

by_place : (e : Plan) (o : Option ℕ) → option_map (act_of_place e) o ≡ option_map (act_by e.problem.acts) (option_map (act_at e.problem.edges) o)
by_place e None = refl
by_place e (Some k) = refl

-- the act into an end of a link
pub act_same : (e : Plan) (g t : ℕ) (l : QLink) → touches g l ≡ true →
    act_into e g l ≡ option_map (act_by e.problem.acts) (act_to g (act_link e.problem.protocol e.problem.edges e.links (t, l)))
act_same e g t l at = by_place e (edge_into e.problem.protocol e.links g l) ∙ ap (option_map (act_by e.problem.acts)) (step (nat_eq l.low g) refl) where
  side : ℕ → Option ℕ
  side h = option_map (act_at e.problem.edges) (edge_into e.problem.protocol e.links h l)

  step : (b : Bool) → nat_eq l.low g ≡ b → side g ≡ cond b (side l.low) (side l.high)
  step true same = ap side (sym (same_numbers l.low g same))
  step false other = ap side (sym (same_numbers l.high g (ap (λ b. b || nat_eq l.high g) (sym other) ∙ at)))

linked : ℕ → ℕ → ℕ → QLink → Option Act → Interface
linked g k t l act = record {
  name = codes "GigabitEthernet0/" ++ decimal k;
  line = 0;
  address = Some (link_address t (side_number g l));
  cost =
      option_and_then cost_by act;
  shut = false;
}

one_linked : (e : Plan) (g k : ℕ) (x : ℕ × QLink) → is_at g x ≡ true →
    interface_of_link e.problem.acts g (k, act_link e.problem.protocol e.problem.edges e.links x) ≡ link_interface e g (k, x)
unfolding linked
one_linked e g k (t, l) at = ap (linked g k t l) (sym (act_same e g t l at))

pub link_interfaces_are : (e : Plan) (g : ℕ) (index : LinksByGroup) → g < e.count → HasLinks e index →
    map (interface_of_link e.problem.acts g) (enumerate_from 1 (group_links index g)) ≡ link_interfaces e g
unfolding link_interfaces links_at
link_interfaces_are e g index inside has =
    let draw = act_link e.problem.protocol e.problem.edges e.links in
    ap (λ ls. map (interface_of_link e.problem.acts g) (enumerate_from 1 ls)) (links_are e g index inside has)
    ∙ numbered_mapped (interface_of_link e.problem.acts g) draw 1 (links_at e g)
    ∙ numbered_agree (λ (k : ℕ × (ℕ × QLink)). interface_of_link e.problem.acts g (k.0, draw k.1)) (link_interface e g) (is_at g) 1 (enumerate_from 0 e.links)
    (one_linked e g)

-- ---- the router

pub name_is : (e : Plan) (g : ℕ) → g < e.count → slice_index_or e.problem.names (first_member e.groups g) [] ≡ slice_index_or (small e).names g []
unfolding quotient_problem
name_is e g inside = sym (get_or-map-range_with_len (λ h. slice_index_or e.problem.names (first_member e.groups h) []) 0 e.count g g [] inside (omega arith))

made : List ℕ → List Interface → Option BgpProcess → Option OspfProcess → List CommunityList → List RouteMap → Router
made name interfaces bgp ospf lists maps =
    record { name = name; line = 0; interfaces = interfaces; bgp = bgp; ospf = ospf; prefix_lists = []; community_lists = lists; route_maps = maps }

pub router_is : (e : Plan) (g : ℕ) (name : List ℕ) (interfaces : List Interface) (ospf : Option OspfProcess) (prefix_lists : List PrefixList)
    (lists : List CommunityList) (maps : List RouteMap) → e.problem.protocol ≡ OverOspf
    → name ≡ slice_index_or (small e).names g [] → interfaces ≡ class_interfaces e g ++ link_interfaces e g →
    ospf ≡ ospf_on (area_number e) (class_interfaces e g) (class_interfaces e g ++ link_interfaces e g) → prefix_lists ≡ [] → lists ≡ [] → maps ≡ []
    → (let r : Router = record {
      name = name;
      line = 0;
      interfaces = interfaces;
      bgp = None;
      ospf = ospf;
      prefix_lists = prefix_lists;
      community_lists = lists;
      route_maps = maps;
    } in r) ≡ emitted_router e g
unfolding made maps_of
router_is e g name interfaces ospf prefix_lists lists maps is named are process none no_lists no_maps =
    let over : Protocol → Router = λ q. made (slice_index_or (small e).names g []) (class_interfaces e g ++ link_interfaces e g) (written_bgp q e g)
    (ospf_of q e g) (flat_map lists_of_map (enumerate_from 1 (maps_over q e g)))
    (map (written_map (number (small e) g)) (enumerate_from 1 (maps_over q e g))) in
    ap (λ (ls : List PrefixList). let r : Router =
    record { name = name; line = 0; interfaces = interfaces; bgp = None; ospf = ospf; prefix_lists = ls; community_lists = lists; route_maps = maps } in r)
    none
    ∙ ap (λ n. made n interfaces None ospf lists maps) named
    ∙ ap (λ xs. made (slice_index_or (small e).names g []) xs None ospf lists maps) are
    ∙ ap (λ o. made (slice_index_or (small e).names g []) (class_interfaces e g ++ link_interfaces e g) None o lists maps) process
    ∙ ap (λ ls. made (slice_index_or (small e).names g []) (class_interfaces e g ++ link_interfaces e g) None (ospf_of OverOspf e g) ls maps) no_lists
    ∙ ap (λ ms. made (slice_index_or (small e).names g []) (class_interfaces e g ++ link_interfaces e g) None (ospf_of OverOspf e g) [] ms) no_maps
    ∙ ap over (sym is)
