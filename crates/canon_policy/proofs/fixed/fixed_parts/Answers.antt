use Rattle.dd_core.proofs.ShownLemmas.{grows_trans}
use Rattle.canon_policy.proofs.FixedNodes.{part_more}
use Rattle.canon_policy.proofs.fixed.fixed_parts.Goals as goal

pub loop-part-preserved : goal.loop-part-preserved
loop-part-preserved c = record {
  grows = grows_trans _ _ _ c.loop-part.invariant.grows c.in_ok-one.ensures.grows;
  fixed = rw c.in_ok-push.ensures.ok (part_more c.args.store.now c.loop-part.store c.fixed_part.new.store c.args.alone.now c.args.parts.now c.loop-part.made
      c.loop-part.part-index c.part-item.result c.in_ok-one.one c.loop-part.invariant.grows c.in_ok-one.ensures.grows c.loop-part-test.true c.part-item.is
      c.requires.parts c.loop-part.invariant.fixed c.in_ok-one.ensures.fixed);
}
