use Rattle.refine_partition.proofs.RefineLemmas.{waiting_first, waiting_last}
use Rattle.refine_partition.proofs.pending.enqueue.Goals as goal

pub returns-then-is_large : goal.returns-then-is_large
returns-then-is_large c = waiting_first _ _ _ c.in_ok-push_front.ensures.items

pub returns : goal.returns
returns c = waiting_last _ _ _ c.in_ok-push_back.ensures.items
