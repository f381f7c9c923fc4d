use Rattle.std.proofs.Common.{◌≡◌, ◌<◌, ◌++◌, ℕ, All, Vec, get_or, length, take, ap, ◌∙◌, arith}
use Rattle.std.specs.Prelude.{slice_index}
use Rattle.std.specs.declared.alloc.Global.{Global}
use Rattle.std.proofs.lemmas.List.{take_more, get_or-take, length-take, get_or_default}
use Rattle.base_kit.specs.Partition.{members_of}
use Rattle.refine_partition.proofs.QueueLemmas.{queue_more, rising}
use Rattle.refine_partition.proofs.touched.queue_of.Goals as goal

pub loop-block-preserved : goal.loop-block-preserved
loop-block-preserved c =
    let touched = c.args.touched.now in
    let k = c.loop-block.block-index in
    let block : ℕ = get_or touched k 0 in
    let here : k < length touched = c.loop-block-test.true in
    let earlier : All (λ b. b < block) (take k touched) = λ i d inside.
    let size = length-take k touched in
    let less : i < k = omega arith in
    let at = get_or-take k touched i d less in
    let at' = get_or_default touched i d 0 (omega arith) in
    let up : slice_index touched i < block = rising touched i k c.requires.in_order less here in
    omega arith in
    let known : block < length c.args.blocks.now = c.requires.in_range k 0 here in
    let members : c.deref.result.now ≡ members_of c.args.numbers.now block =
    c.deref.ensures.value ∙ ap (λ (v : Vec ℕ Global). v.items) c.index-blocks-block.is ∙ c.requires.blocks.each block _ known in
    rw (take_more touched k 0 here)
    (queue_more _ _ _ _ block c.loop-block.invariant earlier (c.in_ok-extend_from_slice.ensures.items ∙ ap (λ xs. c.loop-block.queue.items ++ xs) members))
