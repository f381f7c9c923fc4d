use Rattle.std.proofs.Common.{◌≡◌, ◌-◌, ◌≤◌, not}
use Rattle.cfg_ast.specs.text.Lines.{first_at, blank_at}
use Rattle.cfg_lex.proofs.places.indent_between.Given as goal

abbrev pub invariant-loop-i : goal.invariant-loop-i
invariant-loop-i l = (l.from ≤ l.i) × (l.i ≤ l.upto)
    × (first_at (λ i. not (blank_at l.bytes i)) l.i l.upto ≡ first_at (λ i. not (blank_at l.bytes i)) l.from l.upto)

abbrev pub decreases-loop-i : goal.decreases-loop-i
decreases-loop-i l = l.upto - l.i
