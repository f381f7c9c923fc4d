use Rattle.std.proofs.Common.{◌≡◌, take, map, flat_map}
use Rattle.cfg_ast.specs.meaning.RouterFaults.{address_line}
use Rattle.cfg_check.specs.Items.{overlapping_in}
use Rattle.cfg_check.specs.LeastLine.{least_line}
use Rattle.cfg_check.proofs.overlaps.overlapping_interfaces.Given as goal

abbrev pub invariant-loop-router : goal.invariant-loop-router
invariant-loop-router l = l.least ≡ least_line (map address_line (flat_map overlapping_in (take l.router-index l.routers)))
