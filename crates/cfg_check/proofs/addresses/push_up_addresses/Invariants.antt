use Rattle.std.proofs.Common.{◌≡◌, ◌++◌, take, filter_map}
use Rattle.cfg_ast.specs.meaning.Topology.{up_address}
use Rattle.cfg_check.proofs.addresses.push_up_addresses.Given as goal

abbrev pub invariant-loop-interface : goal.invariant-loop-interface
invariant-loop-interface l = l.found.items ≡ l.initial.found.items ++ filter_map up_address (take l.interface-index l.interfaces)
