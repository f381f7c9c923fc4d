use Rattle.std.proofs.Common.{◌≡◌, ◌-◌, ◌≤◌, not, length, slice_index}
use Rattle.cfg_ast.specs.text.Lines.{first_at}
use Rattle.cfg_lex.specs.Odd.{is_letter}
use Rattle.cfg_lex.proofs.places.letters_end_among_few.Given as goal

abbrev pub invariant-loop-i : goal.invariant-loop-i
invariant-loop-i l = (l.from ≤ l.i) × (l.i ≤ length l.bytes)
    × (first_at (λ i. not (is_letter (slice_index l.bytes i))) l.i (length l.bytes) ≡ first_at (λ i. not (is_letter (slice_index l.bytes i))) l.from
    (length l.bytes))

abbrev pub decreases-loop-i : goal.decreases-loop-i
decreases-loop-i l = length l.bytes - l.i
