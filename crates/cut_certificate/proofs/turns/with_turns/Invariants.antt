use Rattle.cut_certificate.specs.Moves.{IsCourse}
use Rattle.cut_certificate.proofs.turns.with_turns.Given as goal

abbrev pub invariant-loop-turn : goal.invariant-loop-turn
invariant-loop-turn l = IsCourse l.graph l.course.blocks l.course.splits
