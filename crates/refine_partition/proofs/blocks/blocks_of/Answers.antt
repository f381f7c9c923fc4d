use Rattle.std.proofs.Common.{◌<◌, arith, refl, ◌∙◌}
use Rattle.std.specs.Prelude.{slice_index}
use Rattle.std.proofs.Math.ListN.{length-set}
use Rattle.refine_partition.proofs.MemberLemmas.{blocks_more}
use Rattle.refine_partition.proofs.blocks.blocks_of.Goals as goal

pub loop-router-preserved : goal.loop-router-preserved
loop-router-preserved c =
    let number = slice_index c.args.numbers.now c.loop-router.router in
    let inside : number < c.args.count = c.requires.below c.loop-router.router 0 c.loop-router-test.true in
    let total = c.loop-router.invariant.total in
    record {
      total = length-set _ _ _ ∙ total;
      blocks = blocks_more _ _ _ _ _ _ c.loop-router.invariant.blocks refl (omega arith) c.index_mut.ensures.value c.in_ok-push.ensures.items;
    }
