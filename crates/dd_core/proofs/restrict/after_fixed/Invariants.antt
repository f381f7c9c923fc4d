use Rattle.dd_core.specs.Restrict.{fixed}
use Rattle.dd_core.specs.Fixed.{LeadsTo}
use Rattle.dd_core.proofs.restrict.after_fixed.Given as goal

abbrev pub invariant-loop-variable : goal.invariant-loop-variable
invariant-loop-variable l = LeadsTo l.table (fixed l.universe l.present l.absent) l.from l.place

abbrev pub decreases-loop-variable : goal.decreases-loop-variable
decreases-loop-variable l = l.place
