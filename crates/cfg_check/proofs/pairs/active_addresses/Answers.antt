use Rattle.std.proofs.Common.{List, filter_map, ap, ◌∙◌}
use Rattle.cfg_ast.specs.declared.interface.Interface.{Interface}
use Rattle.cfg_ast.specs.declared.network.Router.{Router}
use Rattle.cfg_check.specs.Items.{active_address_on}
use Rattle.cfg_check.proofs.pairs.active_addresses.Goals as goal

pub returns : goal.returns
returns c =
    c.in_ok-found.ensures
    ∙ ap (λ (router : Router). filter_map (active_address_on router) c.as_slice.result.now) c.in_ok-index.ensures
    ∙ ap (λ (xs : List Interface). filter_map (active_address_on c.args.router.now) xs) c.as_slice.ensures
