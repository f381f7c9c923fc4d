use Rattle.std.proofs.Common.{◌≡◌, ◌-◌, ◌≤◌, length}
use Rattle.cfg_ast.specs.text.Lines.{first_at, newline_at}
use Rattle.cfg_lex.proofs.places.newline_from.Given as goal

abbrev pub invariant-loop-i : goal.invariant-loop-i
invariant-loop-i l = (l.from ≤ l.i) × (l.i ≤ (length l.bytes))
    × (first_at (newline_at l.bytes) l.i (length l.bytes) ≡ first_at (newline_at l.bytes) l.from (length l.bytes))

abbrev pub decreases-loop-i : goal.decreases-loop-i
decreases-loop-i l = (length l.bytes) - l.i
