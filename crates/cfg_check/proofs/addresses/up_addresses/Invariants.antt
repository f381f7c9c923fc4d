use Rattle.std.proofs.Common.{◌≡◌, take, flat_map}
use Rattle.cfg_ast.specs.meaning.RouterFaults.{up_addresses_of}
use Rattle.cfg_check.proofs.addresses.up_addresses.Given as goal

abbrev pub invariant-loop-router : goal.invariant-loop-router
invariant-loop-router l = l.found.items ≡ flat_map up_addresses_of (take l.router-index l.routers)
