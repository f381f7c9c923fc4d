use Rattle.std.proofs.Common.{◌≡◌, Bool, List, map, filter_map, ap, ◌∙◌}
use Rattle.cfg_ast.specs.declared.interface.Interface.{Interface}
use Rattle.cfg_ast.specs.declared.network.Router.{Router}
use Rattle.cfg_ast.specs.meaning.RouterFaults.{address_line, is_wide_loopback, area_addresses_with}
use Rattle.cfg_check.specs.Items.{has_no_cost, area_address_with}
use Rattle.cfg_check.specs.LeastLine.{least_line}
use Rattle.cfg_check.proofs.area.area_faults_of.Goals as goal

-- what the index and the slice have is what the router has
least_of : (has_fault : Interface → Bool) (indexed router : Router) (interfaces : List Interface) → indexed ≡ router → interfaces ≡ router.interfaces
    → least_line (map address_line (filter_map (area_address_with has_fault indexed) interfaces))
    ≡ least_line (map address_line (area_addresses_with has_fault router))
least_of has_fault indexed router interfaces same all =
    ap (λ (r : Router). least_line (map address_line (filter_map (area_address_with has_fault r) interfaces))) same
    ∙ ap (λ (xs : List Interface). least_line (map address_line (filter_map (area_address_with has_fault router) xs))) all

pub returns : goal.returns
returns c =
    let router = c.args.router.now in
    record {
      wide_loopback = c.wide_loopback_in.ensures ∙ least_of is_wide_loopback c.in_ok-index.index.router.now router c.as_slice-interfaces.result.now
          c.in_ok-index.ensures c.as_slice-interfaces.ensures;
      no_cost = c.no_cost_in.ensures ∙ least_of has_no_cost c.in_ok-index.index.router.now router c.as_slice-interfaces.result.now c.in_ok-index.ensures
          c.as_slice-interfaces.ensures;
    }
