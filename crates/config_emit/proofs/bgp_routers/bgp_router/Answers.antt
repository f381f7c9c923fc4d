use Rattle.std.proofs.Common.{ℕ, List, [], ◌∙◌, ◌++◌, ap, map}
use Rattle.std.specs.Prelude.{flat_map, slice_index, slice_index_or}
use Rattle.std.specs.List.{enumerate_from}
use Rattle.route_maps.specs.declared.plain.Plain.{Plain}
use Rattle.srp_core.specs.Problem.{number}
use Rattle.srp_core.specs.declared.route.Act.{Act}
use Rattle.config_emit.specs.GroupMaps.{plains_now}
use Rattle.config_emit.specs.Interfaces.{class_interfaces}
use Rattle.config_emit.specs.LinkSteps.{interface_of_link}
use Rattle.config_emit.specs.MapNumbers.{maps_now}
use Rattle.config_emit.specs.Maps.{maps_of, lists_of_map, written_map}
use Rattle.config_emit.specs.Plan.{small}
use Rattle.config_emit.specs.Sources.{plan_of}
use Rattle.config_emit.specs.declared.act_links.ActLink.{ActLink}
use Rattle.config_emit.proofs.BgpParts.{numbers_are, plains_are, router_is}
use Rattle.config_emit.proofs.FewLinks.{numbers_below}
use Rattle.config_emit.proofs.OspfRouters.{links_are, link_interfaces_are, name_is}
use Rattle.config_emit.proofs.bgp_routers.bgp_router.Goals as goal

pub links_of-links-requires : goal.links_of-links-requires
links_of-links-requires c = c.requires.links.links.has c.args.group c.requires.inside

pub maps_of_group-requires-clause-links : goal.maps_of_group-requires-clause-links
maps_of_group-requires-clause-links c = record {
  are = c.links_of-links.ensures
      ∙ links_are (plan_of c.args.source.now) c.args.group c.args.index.now c.requires.inside c.requires.links;
}

pub process-requires-clause-links : goal.process-requires-clause-links
process-requires-clause-links c = record {
  are = c.links_of-links.ensures
      ∙ links_are (plan_of c.args.source.now) c.args.group c.args.index.now c.requires.inside c.requires.links;
}

pub with_link_interfaces-requires : goal.with_link_interfaces-requires
with_link_interfaces-requires c =
    let e = plan_of c.args.source.now in
    numbers_below e c.args.group c.links_of-links.result.now c.requires.source.few
    (c.links_of-links.ensures ∙ links_are e c.args.group c.args.index.now c.requires.inside c.requires.links)

pub returns : goal.returns
returns c =
    let e = plan_of c.args.source.now in
    let g = c.args.group in
    let named = c.in_ok-name_at.ensures ∙ ap (λ (names : List (List ℕ)). slice_index_or names c.first_member-first.result [])
    (c.as_slice.ensures ∙ c.names.ensures) ∙ ap (λ u. slice_index_or e.problem.names u []) c.first_member-first.ensures ∙ name_is e g c.requires.inside in
    let are = c.in_ok-interfaces.ensures
    ∙ ap (λ xs. xs ++ map (interface_of_link c.acts.result.now g) (enumerate_from 1 c.links_of-links.result.now)) c.in_ok-of_class.ensures
    ∙ ap (λ (acts : List Act). class_interfaces e g ++ map (interface_of_link acts g) (enumerate_from 1 c.links_of-links.result.now)) c.acts.ensures
    ∙ ap (λ (ls : List ActLink). class_interfaces e g ++ map (interface_of_link e.problem.acts g) (enumerate_from 1 ls)) c.links_of-links.ensures
    ∙ ap (λ xs. class_interfaces e g ++ xs) (link_interfaces_are e g c.args.index.now c.requires.inside c.requires.links) in
    let maps = plains_are c.in_ok-maps.maps.uses.items (maps_now c.args.policies.now.maps.items) (maps_of e g) c.in_ok-maps.ensures.uses in
    let numbered = c.number_at.ensures ∙ ap (λ (ns : List ℕ). slice_index ns g) (numbers_are e c.args.numbers.now c.requires.numbers) in
    let lists = c.in_ok-community_lists.ensures ∙ ap (λ (ms : List Plain). flat_map lists_of_map (enumerate_from 1 ms)) maps in
    let written = c.in_ok-route_maps.ensures
    ∙ ap (λ n. map (written_map n) (enumerate_from 1 (plains_now c.in_ok-maps.maps.uses.items))) numbered
    ∙ ap (λ (ms : List Plain). map (written_map (number (small e) g)) (enumerate_from 1 ms)) maps in
    router_is e g c.in_ok-name_at.field-0 c.in_ok-interfaces.interfaces c.in_ok-bgp.bgp c.new.result c.in_ok-community_lists.community_lists
    c.in_ok-route_maps.route_maps c.requires.bgp named are c.in_ok-bgp.ensures c.new.ensures lists written
