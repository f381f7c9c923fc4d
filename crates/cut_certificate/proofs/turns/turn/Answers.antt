use Rattle.cut_certificate.proofs.turns.turn.Goals.{then-ends_act+in_ok-course, else-ends_act}
use Rattle.cut_certificate.proofs.turns.turn.Goals as goal

pub loop-place-preserved : goal.loop-place-preserved
loop-place-preserved c = elim c.if-ends_act.branch [
  | then-ends_act+in_ok-course w ↦ rw w.course-is w.in_ok-course.ensures
  | else-ends_act w ↦ rw w.course-is c.loop-place.invariant
]
