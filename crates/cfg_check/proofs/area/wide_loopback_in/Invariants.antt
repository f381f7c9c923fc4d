use Rattle.std.proofs.Common.{◌≡◌, take, map, filter_map}
use Rattle.cfg_ast.specs.meaning.RouterFaults.{address_line, is_wide_loopback}
use Rattle.cfg_check.specs.Items.{area_address_with}
use Rattle.cfg_check.specs.LeastLine.{least_line}
use Rattle.cfg_check.proofs.area.wide_loopback_in.Given as goal

abbrev pub invariant-loop-interface : goal.invariant-loop-interface
invariant-loop-interface l = l.least ≡ least_line
    (map address_line (filter_map (area_address_with is_wide_loopback l.index.router.now) (take l.interface-index l.interfaces)))
