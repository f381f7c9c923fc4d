use Rattle.std.proofs.Common.{rules}
use Rattle.std.proofs.lemmas.Fn.{filter_same}
use Rattle.refine_partition.proofs.DivisionLemmas.{kept_more}
use Rattle.refine_partition.proofs.division.keep_members.Goals as goal

pub loop-block-preserved : goal.loop-block-preserved
loop-block-preserved c =
    kept_more _ _ _ _ c.loop-block.block-index _ _ c.loop-block.invariant c.loop-block-test.true c.requires.in_order
    (c.requires.known c.loop-block.block-index 0 c.loop-block-test.true) c.index_mut.ensures.value
    (filter_same _ _ _ (λ x b f' k. search rules) _ _ c.retain.ensures.filtered)
