use Rattle.std.proofs.Common.{◌∙◌}
use Rattle.cfg_ast.specs.meaning.RouterFaults.{internal_peers_of}
use Rattle.cfg_check.specs.Items.{neighbor_line}
use Rattle.cfg_check.proofs.Turns.{flat_step}
use Rattle.cfg_check.proofs.processes.internal_peer.Goals as goal

pub loop-router-preserved : goal.loop-router-preserved
loop-router-preserved c = c.lesser_line-least.ensures ∙ flat_step neighbor_line internal_peers_of c.args.routers.now c.loop-router.router-index
    c.router-item.result c.loop-router.least c.internal_peer_of.result c.loop-router-test.true c.router-item.is c.loop-router.invariant
    c.internal_peer_of.ensures
