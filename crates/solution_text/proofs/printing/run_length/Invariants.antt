use Rattle.std.proofs.Common.{◌≡◌, ◌+◌, ◌==◌, drop, not}
use Rattle.std.specs.List.{position_or_len}
use Rattle.solution_text.proofs.printing.run_length.Given as goal

abbrev pub invariant-loop-i : goal.invariant-loop-i
invariant-loop-i l = l.i + position_or_len (λ other. not (other == l.number)) (drop l.i l.path) ≡ position_or_len (λ other. not (other == l.number)) l.path
