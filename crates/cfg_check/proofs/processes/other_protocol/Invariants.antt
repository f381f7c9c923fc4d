use Rattle.std.proofs.Common.{◌≡◌, take, map, filter, flat_map}
use Rattle.cfg_ast.specs.meaning.RouterFaults.{protocol_lines_of}
use Rattle.cfg_check.specs.Items.{line_of_protocol}
use Rattle.cfg_check.specs.LeastLine.{least_line}
use Rattle.cfg_check.specs.Processes.{has_other_protocol}
use Rattle.cfg_check.proofs.processes.other_protocol.Given as goal

abbrev pub invariant-loop-router : goal.invariant-loop-router
invariant-loop-router l = l.least ≡ least_line
    (map line_of_protocol (filter (has_other_protocol l.protocol) (flat_map protocol_lines_of (take l.router-index l.routers))))
