use Rattle.std.proofs.Common.{◌≡◌, take, map, filter}
use Rattle.cfg_check.specs.Items.{area_line}
use Rattle.cfg_check.specs.LeastLine.{least_line}
use Rattle.cfg_check.specs.Processes.{has_other_area}
use Rattle.cfg_check.proofs.processes.other_area_of.Given as goal

abbrev pub invariant-loop-line : goal.invariant-loop-line
invariant-loop-line l = l.least ≡ least_line (map area_line (filter (has_other_area l.area) (take l.line-index l.lines)))
