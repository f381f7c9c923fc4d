use Rattle.std.proofs.Common.{◌≡◌, take, flat_map}
use Rattle.cfg_ast.specs.meaning.PolicyFaults.{undefined_lists_of}
use Rattle.cfg_check.specs.LeastLine.{least_line}
use Rattle.cfg_check.proofs.undefined.undefined_list.Given as goal

abbrev pub invariant-loop-router : goal.invariant-loop-router
invariant-loop-router l = l.least ≡ least_line (flat_map undefined_lists_of (take l.router-index l.routers))
