use Rattle.std.proofs.Common.{◌∙◌, ◌++◌, ap, subst}
use Rattle.std.specs.Prelude.{filter_map}
use Rattle.std.specs.List.{enumerate_from}
use Rattle.config_emit.specs.Spots.{AreSpots, served_at}
use Rattle.cfg_ast.specs.declared.network.Router.{Router}
use Rattle.config_emit.proofs.ClassSpots.{class_interfaces_are}
use Rattle.config_emit.proofs.class_interfaces.class_interfaces.Goals as goal

pub returns : goal.returns
returns c =
    let router = c.args.router.now in
    let spots = c.in_ok-spots.spots in
    let here = subst (λ xs. AreSpots c.args.protocol c.in_ok-index.index.router.now spots xs) c.as_slice.ensures c.in_ok-spots.ensures in
    let are = subst (λ (r : Router). AreSpots c.args.protocol r spots router.interfaces) c.in_ok-index.ensures here in
    c.in_ok-push_interfaces.ensures
    ∙ ap (λ xs. xs ++ filter_map (served_at spots) (enumerate_from 1 c.args.prefixes.now)) c.new-found.ensures
    ∙ class_interfaces_are c.args.protocol router spots c.args.prefixes.now are c.requires
