use Rattle.cut_certificate.proofs.turns.with_reached.Goals.{then-ends_block+in_ok-course, else-ends_block}
use Rattle.cut_certificate.proofs.turns.with_reached.Goals as goal

pub loop-place-preserved : goal.loop-place-preserved
loop-place-preserved c = elim c.if-ends_block.branch [
  | then-ends_block+in_ok-course w ↦ rw w.course-is w.in_ok-course.ensures
  | else-ends_block w ↦ rw w.course-is c.loop-place.invariant
]
