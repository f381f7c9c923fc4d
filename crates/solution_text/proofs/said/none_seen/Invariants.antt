use Rattle.std.proofs.Common.{◌≡◌, replicate, false}
use Rattle.solution_text.proofs.said.none_seen.Given as goal

abbrev pub invariant-loop-i : goal.invariant-loop-i
invariant-loop-i l = l.seen.items ≡ replicate l._i false
