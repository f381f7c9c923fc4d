use Rattle.std.proofs.Common.{◌≡◌, get_or}
use Rattle.dd_core.proofs.ShownLemmas.{grows_trans}
use Rattle.canon_policy.proofs.Carried.{read_at}
use Rattle.canon_policy.proofs.FixedNodes.{node_more}
use Rattle.canon_policy.proofs.fixed.fixed_nodes.Goals as goal

pub loop-node-preserved : goal.loop-node-preserved
loop-node-preserved c =
    let at : c.node-item.result ≡ get_or c.args.nodes.now c.loop-node.node-index 0 =
    read_at c.args.nodes.now c.loop-node.node-index c.node-item.result 0 c.loop-node-test.true c.node-item.is in
    record {
      grows = grows_trans _ _ _ c.loop-node.invariant.grows c.in_ok-one.ensures.grows;
      fixed = rw c.in_ok-push.ensures.ok (node_more c.args.store.now c.loop-node.store c.fixed_node.new.store c.args.alone.now c.args.nodes.now c.loop-node.made
          c.loop-node.node-index c.node-item.result c.in_ok-one.one c.loop-node.invariant.grows c.in_ok-one.ensures.grows c.loop-node-test.true at
          c.requires.nodes c.loop-node.invariant.fixed c.in_ok-one.ensures.fixed);
    }
