use Rattle.std.proofs.Common.{rules, ◌≡◌, []}
use Rattle.refine_partition.proofs.RefineLemmas.{none_waiting, all_more}
use Rattle.refine_partition.proofs.pending.all_waiting.Goals as goal

pub loop-block-init : goal.loop-block-init
loop-block-init c =
    let queue : c.in_ok-queue.queue.items ≡ [] = search rules in
    let waits : c.in_ok-waits.waits.items ≡ [] = search rules in
    rw (queue, waits) none_waiting

pub loop-block-preserved : goal.loop-block-preserved
loop-block-preserved c = rw (c.in_ok-push_back.ensures.items, c.in_ok-push.ensures.items) (all_more _ _ _ c.loop-block.invariant)
