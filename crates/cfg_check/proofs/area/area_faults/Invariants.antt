use Rattle.std.proofs.Common.{◌≡◌, take, map, flat_map}
use Rattle.cfg_ast.specs.meaning.RouterFaults.{address_line, is_wide_loopback, area_addresses_with}
use Rattle.cfg_check.specs.Items.{has_no_cost}
use Rattle.cfg_check.specs.LeastLine.{least_line}
use Rattle.cfg_check.proofs.area.area_faults.Given as goal

abbrev pub invariant-loop-router : goal.invariant-loop-router
invariant-loop-router l = record {
  wide : l.wide_loopback ≡ least_line (map address_line (flat_map (area_addresses_with is_wide_loopback) (take l.router-index l.routers)));
  no_cost : l.no_cost ≡ least_line (map address_line (flat_map (area_addresses_with has_no_cost) (take l.router-index l.routers)));
}
