use Rattle.std.proofs.Common.{◌≡◌, replicate, None}
use Rattle.solution_text.proofs.said.no_labels.Given as goal

abbrev pub invariant-loop-i : goal.invariant-loop-i
invariant-loop-i l = l.labels ≡ replicate l._i None
