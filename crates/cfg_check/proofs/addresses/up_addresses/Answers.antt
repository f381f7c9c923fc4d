use Rattle.std.proofs.Common.{List, filter_map, ap}
use Rattle.cfg_ast.specs.declared.interface.Interface.{Interface}
use Rattle.cfg_ast.specs.meaning.Topology.{up_address}
use Rattle.cfg_ast.specs.meaning.RouterFaults.{up_addresses_of}
use Rattle.cfg_check.proofs.Turns.{flat_more}
use Rattle.cfg_check.proofs.addresses.up_addresses.Goals as goal

pub loop-router-preserved : goal.loop-router-preserved
loop-router-preserved c = flat_more up_addresses_of c.args.routers.now c.loop-router.router-index c.router-item.result c.loop-router.found.items
    c.push_up_addresses.new.found.items (filter_map up_address c.as_slice.result.now) c.loop-router-test.true c.router-item.is c.loop-router.invariant
    (ap (λ (xs : List Interface). filter_map up_address xs) c.as_slice.ensures) c.in_ok-push_up_addresses.ensures
