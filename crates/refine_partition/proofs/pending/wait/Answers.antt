use Rattle.std.proofs.Common.{rules}
use Rattle.refine_partition.proofs.RefineLemmas.{marked_more}
use Rattle.refine_partition.proofs.pending.wait.Goals as goal

pub returns-clause-marked : goal.returns-clause-marked
returns-clause-marked c = marked_more _ _ _ _ c.requires.marked c.requires.known (search rules) c.in_ok-enqueue.ensures
