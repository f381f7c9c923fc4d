use Rattle.std.proofs.Common.{◌≡◌, ◌+◌, drop, not}
use Rattle.std.specs.List.{position_or_len}
use Rattle.cfg_ast.specs.text.Lines.{is_blank}
use Rattle.cfg_lex.proofs.line_words.blanks_before.Given as goal

abbrev pub invariant-loop-i : goal.invariant-loop-i
invariant-loop-i l = l.i + position_or_len (λ b. not (is_blank b)) (drop l.i l.line) ≡ position_or_len (λ b. not (is_blank b)) l.line
