use Rattle.refine_partition.proofs.RefineLemmas.{coarsest_by_number}
use Rattle.refine_partition.proofs.RunLemmas.{reached_by}
use Rattle.refine_partition.proofs.partition.coarsest_by.Goals as goal

pub returns-clause-coarsest : goal.returns-clause-coarsest
returns-clause-coarsest g c =
    let total = rw c.deref-2.ensures.value at c.in_ok-numbers.ensures.total in
    let numbering = rw c.deref-2.ensures.value at c.in_ok-numbers.ensures.numbering in
    rw c.in_ok-partition.ensures (coarsest_by_number _ _ _ _ c.in_ok-blocks.ensures.coarsest total numbering)

pub returns-clause-splits : goal.returns-clause-splits
returns-clause-splits g c =
    let total = rw c.deref-2.ensures.value at c.in_ok-numbers.ensures.total in
    let numbering = rw c.deref-2.ensures.value at c.in_ok-numbers.ensures.numbering in
    let (splits, count, turns, so_far) = c.in_ok-blocks.ensures.splits in
    (splits, turns, rw c.in_ok-partition.ensures (reached_by _ _ _ _ _ _ c.in_ok-blocks.ensures.coarsest.admissible.total so_far total numbering))
