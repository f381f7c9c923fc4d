use Rattle.std.proofs.Common.{refl}
use Rattle.cfg_ast.specs.meaning.PolicyFaults.{mentions_of}
use Rattle.cfg_check.proofs.Turns.{flat_more}
use Rattle.cfg_check.proofs.communities.all_mentions.Goals as goal

pub loop-router-preserved : goal.loop-router-preserved
loop-router-preserved c = flat_more mentions_of c.args.routers.now c.loop-router.router-index c.router-item.result c.loop-router.found.items
    c.push_of.new.found.items (mentions_of c.router-item.result) c.loop-router-test.true c.router-item.is c.loop-router.invariant refl c.in_ok-push_of.ensures
