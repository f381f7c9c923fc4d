use Rattle.config_emit.proofs.ClassSpots.{spots_turn}
use Rattle.config_emit.proofs.class_interfaces.spots_of.Goals as goal

pub loop-interface-preserved : goal.loop-interface-preserved
loop-interface-preserved c =
    spots_turn c.args.protocol c.args.index.now.router.now c.loop-interface.spots c.put_spot.new.spots c.args.interfaces.now c.loop-interface.interface-index
    c.interface-item.result c.loop-interface-test.true c.interface-item.is c.in_ok-put_spot.ensures c.loop-interface.invariant
