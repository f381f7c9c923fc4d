use Rattle.std.proofs.Common.{List, filter_map, sym, ap, ◌∙◌, subst}
use Rattle.std.specs.BTreeMap.{get}
use Rattle.cfg_ast.specs.declared.interface.Interface.{Interface}
use Rattle.cfg_ast.specs.declared.network.Router.{Router}
use Rattle.dest_classes.specs.Routes.{prefix_cmp, route_at, all_noted, AreNamed}
use Rattle.dest_classes.proofs.routes.note_router.Goals as goal

pub note_interfaces-requires : goal.note_interfaces-requires
note_interfaces-requires c = rw c.as_ref.ensures.value (subst (λ (router : Router). AreNamed router.bgp c.in_ok-named.named) (sym c.in_ok-index.ensures)
    c.in_ok-named.ensures)

pub returns : goal.returns
returns c = λ p.
    let known = get prefix_cmp c.args.originators.now p in
    c.in_ok-note_interfaces.ensures p
    ∙ ap (λ (router : Router). all_noted p c.args.place (filter_map (route_at router) c.as_slice-interfaces.result.now) known) c.in_ok-index.ensures
    ∙ ap (λ (xs : List Interface). all_noted p c.args.place (filter_map (route_at c.args.router.now) xs) known) c.as_slice-interfaces.ensures
