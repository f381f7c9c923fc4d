use Rattle.cfg_check.specs.Processes.{numbered_of}
use Rattle.cfg_check.proofs.Turns.{picked_more}
use Rattle.cfg_check.proofs.processes.numbers_of.Goals as goal

pub loop-router-preserved : goal.loop-router-preserved
loop-router-preserved c = picked_more numbered_of c.args.routers.now c.loop-router.router-index c.router-item.result c.loop-router.all.items
    c.push_some.new.found.items c.number_of.result c.loop-router-test.true c.router-item.is c.loop-router.invariant c.number_of.ensures
    c.in_ok-push_some.ensures
