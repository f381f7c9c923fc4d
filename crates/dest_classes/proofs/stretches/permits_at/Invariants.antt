use Rattle.std.proofs.Common.{◌≡◌, drop}
use Rattle.dest_classes.specs.Stretches.{permits_at}
use Rattle.dest_classes.proofs.stretches.permits_at.Given as goal

abbrev pub invariant-loop-answer : goal.invariant-loop-answer
invariant-loop-answer l = permits_at (drop l.answer-index l.answers) l.addr ≡ permits_at l.answers l.addr
