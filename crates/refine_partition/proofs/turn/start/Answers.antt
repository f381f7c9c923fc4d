use Rattle.refine_partition.proofs.TurnLemmas.{first_settled}
use Rattle.refine_partition.proofs.turn.start.Goals as goal

pub returns-clause-settled : goal.returns-clause-settled
returns-clause-settled c = first_settled _ _ _ _ c.in_ok-numbers.ensures.numbering.numbered c.in_ok-lists.ensures.total
    (rw c.deref.ensures.value at c.in_ok-lists.ensures.blocks) (rw c.deref-2.ensures.value at c.in_ok-classes.ensures)
