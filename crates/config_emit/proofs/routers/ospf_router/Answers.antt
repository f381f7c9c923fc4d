use Rattle.std.proofs.Common.{ℕ, List, [], ◌∙◌, ◌++◌, ap, length, map, take}
use Rattle.std.proofs.Math.Seq.{take-append_seam}
use Rattle.std.specs.Prelude.{slice_index_or}
use Rattle.std.specs.List.{enumerate_from}
use Rattle.cfg_ast.specs.declared.interface.Interface.{Interface}
use Rattle.srp_core.specs.declared.route.Act.{Act}
use Rattle.config_emit.specs.Emitted.{ospf_on}
use Rattle.config_emit.specs.Interfaces.{class_interfaces, link_interfaces}
use Rattle.config_emit.specs.LinkSteps.{interface_of_link}
use Rattle.config_emit.specs.Sources.{plan_of}
use Rattle.config_emit.specs.declared.act_links.ActLink.{ActLink}
use Rattle.config_emit.proofs.FewLinks.{numbers_below}
use Rattle.config_emit.proofs.OspfRouters.{links_are, link_interfaces_are, name_is, router_is}
use Rattle.config_emit.proofs.routers.ospf_router.Goals as goal

pub links_of-links-requires : goal.links_of-links-requires
links_of-links-requires c = c.requires.links.links.has c.args.group c.requires.inside

pub with_link_interfaces-requires : goal.with_link_interfaces-requires
with_link_interfaces-requires c =
    let e = plan_of c.args.source.now in
    numbers_below e c.args.group c.links_of-links.result.now c.requires.source.few
    (c.links_of-links.ensures ∙ links_are e c.args.group c.args.index.now c.requires.inside c.requires.links)

pub returns : goal.returns
returns c =
    let e = plan_of c.args.source.now in
    let g = c.args.group in
    let named = c.in_ok-name_at.ensures ∙ ap (λ (names : List (List ℕ)). slice_index_or names c.first_member-first.result [])
    (c.as_slice.ensures ∙ c.names.ensures) ∙ ap (λ u. slice_index_or e.problem.names u []) c.first_member-first.ensures ∙ name_is e g c.requires.inside in
    let are = c.in_ok-interfaces.ensures
    ∙ ap (λ xs. xs ++ map (interface_of_link c.acts.result.now g) (enumerate_from 1 c.links_of-links.result.now)) c.in_ok-of_class.ensures
    ∙ ap (λ (acts : List Act). class_interfaces e g ++ map (interface_of_link acts g) (enumerate_from 1 c.links_of-links.result.now)) c.acts.ensures
    ∙ ap (λ (ls : List ActLink). class_interfaces e g ++ map (interface_of_link e.problem.acts g) (enumerate_from 1 ls)) c.links_of-links.ensures
    ∙ ap (λ xs. class_interfaces e g ++ xs) (link_interfaces_are e g c.args.index.now c.requires.inside c.requires.links) in
    let links = link_interfaces e g in
    let all = class_interfaces e g ++ links in
    let process = c.in_ok-ospf.ensures
    ∙ ap (λ (xs : List Interface). ospf_on c.args.area (take c.len-passive.result xs) xs) (c.as_slice-all.ensures ∙ are)
    ∙ ap (λ n. ospf_on c.args.area (take n all) all) (c.len-passive.ensures ∙ ap length c.in_ok-of_class.ensures)
    ∙ ap (λ xs. ospf_on c.args.area xs all) (take-append_seam (class_interfaces e g) links)
    ∙ ap (λ a. ospf_on a (class_interfaces e g) all) c.requires.area in
    router_is e g c.in_ok-name_at.field-0 c.in_ok-interfaces.interfaces c.in_ok-ospf.ospf c.new.result c.new-2.result c.new-3.result c.requires.ospf named
    are process c.new.ensures c.new-2.ensures c.new-3.ensures
