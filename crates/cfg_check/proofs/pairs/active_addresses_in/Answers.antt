use Rattle.cfg_check.specs.Items.{active_address_on}
use Rattle.cfg_check.proofs.Turns.{picked_more}
use Rattle.cfg_check.proofs.pairs.active_addresses_in.Goals as goal

pub loop-interface-preserved : goal.loop-interface-preserved
loop-interface-preserved c = picked_more (active_address_on c.args.index.now.router.now) c.args.interfaces.now c.loop-interface.interface-index
    c.interface-item.result c.loop-interface.found.items c.push_some.new.found.items c.active_address.result c.loop-interface-test.true c.interface-item.is
    c.loop-interface.invariant c.active_address.ensures c.in_ok-push_some.ensures
