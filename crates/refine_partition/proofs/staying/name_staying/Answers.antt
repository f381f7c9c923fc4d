use Rattle.std.proofs.Common.{◌<◌, length, ◌∙◌, arith}
use Rattle.std.specs.Prelude.{slice_index}
use Rattle.std.proofs.lemmas.List.{take_more}
use Rattle.std.proofs.Math.ListN.{length-set}
use Rattle.refine_partition.proofs.StayingLemmas.{routers_of, has_member, listed_set, not_earlier, staying_more}
use Rattle.refine_partition.proofs.staying.name_staying.Goals as goal

pub staying_class-class-requires-clause-routers : goal.staying_class-class-requires-clause-routers
staying_class-class-requires-clause-routers c =
    let known = c.requires.known c.loop-block.block-index 0 c.loop-block-test.true in
    let total = c.loop-block.invariant.total in
    let inside : slice_index c.args.blocks.now c.loop-block.block-index < length c.loop-block.lists.items = omega arith in
    routers_of _ _ _ _ c.loop-block.invariant.listed inside c.index_mut.ensures.value

pub staying_class-class-requires-clause-some : goal.staying_class-class-requires-clause-some
staying_class-class-requires-clause-some c =
    let known = c.requires.known c.loop-block.block-index 0 c.loop-block-test.true in
    let total = c.loop-block.invariant.total in
    let inside : slice_index c.args.blocks.now c.loop-block.block-index < length c.loop-block.lists.items = omega arith in
    has_member _ _ _ _ c.loop-block.invariant.listed (rw total c.requires.used) inside c.index_mut.ensures.value

pub loop-block-preserved : goal.loop-block-preserved
loop-block-preserved c =
    let k = c.loop-block.block-index in
    let here = c.loop-block-test.true in
    let before = c.loop-block.invariant in
    let known = c.requires.known k 0 here in
    let total = before.total in
    let inside : slice_index c.args.blocks.now k < length c.loop-block.lists.items = omega arith in
    let looked = c.staying_class-class.ensures in
    record {
      total = length-set _ _ _ ∙ total;
      listed = listed_set _ _ _ _ _ before.listed inside c.index_mut.ensures.value looked.listed;
      staying = rw (take_more c.args.blocks.now k 0 here) (staying_more _ _ _ _ _ _ _ _ _ before.staying c.requires.finer
          (not_earlier _ k c.requires.in_order here) before.listed inside c.index_mut.ensures.value looked.staying c.in_ok-name_class.ensures);
    }
