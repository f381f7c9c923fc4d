use Rattle.std.proofs.Common.{◌≡◌, ◌++◌, replicate}
use Rattle.solution_text.proofs.forms.put_piece.Given as goal

abbrev pub invariant-loop-i : goal.invariant-loop-i
invariant-loop-i l = l.path.items ≡ l.fn.path.items ++ replicate l._i l.piece.number
