use Rattle.cfg_ast.specs.meaning.Topology.{up_address}
use Rattle.cfg_check.proofs.Turns.{picked_onto}
use Rattle.cfg_check.proofs.addresses.push_up_addresses.Goals as goal

pub loop-interface-preserved : goal.loop-interface-preserved
loop-interface-preserved c = picked_onto up_address c.args.found.now.items c.args.interfaces.now c.loop-interface.interface-index c.interface-item.result
    c.loop-interface.found.items c.push_some.new.found.items c.up_address.result c.loop-interface-test.true c.interface-item.is c.loop-interface.invariant
    c.up_address.ensures c.in_ok-push_some.ensures
