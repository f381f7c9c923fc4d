use Rattle.std.proofs.Common.{◌≡◌, take, flat_map}
use Rattle.cfg_ast.specs.meaning.PolicyFaults.{prepending_maps_in_of}
use Rattle.cfg_check.specs.LeastLine.{least_line}
use Rattle.cfg_check.proofs.prepends.prepend_in.Given as goal

abbrev pub invariant-loop-router : goal.invariant-loop-router
invariant-loop-router l = l.least ≡ least_line (flat_map prepending_maps_in_of (take l.router-index l.routers))
