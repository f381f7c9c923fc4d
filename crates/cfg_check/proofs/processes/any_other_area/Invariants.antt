use Rattle.std.proofs.Common.{◌≡◌, take, map, filter, flat_map}
use Rattle.cfg_ast.specs.meaning.RouterFaults.{areas_of}
use Rattle.cfg_check.specs.Items.{area_line}
use Rattle.cfg_check.specs.LeastLine.{least_line}
use Rattle.cfg_check.specs.Processes.{has_other_area}
use Rattle.cfg_check.proofs.processes.any_other_area.Given as goal

abbrev pub invariant-loop-router : goal.invariant-loop-router
invariant-loop-router l = l.least ≡ least_line (map area_line (filter (has_other_area l.area) (flat_map areas_of (take l.router-index l.routers))))
