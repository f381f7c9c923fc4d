use Rattle.std.proofs.Common.{◌≡◌, take, flat_map, []}
use Rattle.cfg_ast.specs.meaning.RouterFaults.{protocol_lines_of}
use Rattle.cfg_check.proofs.processes.first_protocol.Given as goal

abbrev pub invariant-loop-router : goal.invariant-loop-router
invariant-loop-router l = flat_map protocol_lines_of (take l.router-index l.routers) ≡ []
