use Rattle.cut_certificate.specs.Moves.{IsCourse}
use Rattle.cut_certificate.proofs.turns.with_reached.Given as goal

abbrev pub invariant-loop-place : goal.invariant-loop-place
invariant-loop-place l = IsCourse l.graph l.course.blocks l.course.splits
