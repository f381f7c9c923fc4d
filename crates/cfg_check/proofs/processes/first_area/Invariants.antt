use Rattle.std.proofs.Common.{◌≡◌, take, flat_map, []}
use Rattle.cfg_ast.specs.meaning.RouterFaults.{areas_of}
use Rattle.cfg_check.proofs.processes.first_area.Given as goal

abbrev pub invariant-loop-router : goal.invariant-loop-router
invariant-loop-router l = flat_map areas_of (take l.router-index l.routers) ≡ []
