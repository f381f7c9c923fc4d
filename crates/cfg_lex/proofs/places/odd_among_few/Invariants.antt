use Rattle.std.proofs.Common.{◌≡◌, ◌-◌, ◌≤◌, not, slice_index}
use Rattle.cfg_ast.specs.text.Lines.{first_at, is_plain}
use Rattle.cfg_lex.proofs.places.odd_among_few.Given as goal

abbrev pub invariant-loop-i : goal.invariant-loop-i
invariant-loop-i l = (l.from ≤ l.i) × (l.i ≤ l.upto)
    × (first_at (λ i. not (is_plain (slice_index l.bytes i))) l.i l.upto ≡ first_at (λ i. not (is_plain (slice_index l.bytes i))) l.from l.upto)

abbrev pub decreases-loop-i : goal.decreases-loop-i
decreases-loop-i l = l.upto - l.i
