-- Repeated AS numbers, from the numbers and lines of the processes.
use Rattle.std.proofs.Common.{◌≡◌, List, map, filter_map, refl}
use Rattle.cfg_ast.specs.declared.network.Router.{Router}
use Rattle.cfg_ast.specs.meaning.RouterFaults.{repeats}
use Rattle.cfg_check.specs.Items.{process_line, bgp_of, same_number}
use Rattle.cfg_check.specs.LeastLine.{least_line}
use Rattle.cfg_check.specs.Processes.{numbered_by, numbered_of, line_of_numbered, same_numbered}
use Rattle.cfg_check.proofs.Repeats.{least_repeat-keys}

pub shared_numbers : (routers : List Router) →
    least_line (map line_of_numbered (repeats same_numbered (filter_map numbered_of routers))) ≡ least_line
    (map process_line (repeats same_number (filter_map bgp_of routers)))
shared_numbers routers = least_repeat-keys bgp_of numbered_by same_number same_numbered line_of_numbered (λ x y. refl) routers
