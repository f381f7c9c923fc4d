use Rattle.std.proofs.Common.{◌≡◌, take, flat_map}
use Rattle.cfg_check.specs.Items.{foreign_prepend_in}
use Rattle.cfg_check.specs.LeastLine.{least_line}
use Rattle.cfg_check.proofs.prepends.foreign_prepends_in_map.Given as goal

abbrev pub invariant-loop-entry : goal.invariant-loop-entry
invariant-loop-entry l = l.least ≡ least_line (flat_map (foreign_prepend_in l.router) (take l.entry-index l.entry-items))
