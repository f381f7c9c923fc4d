use Rattle.std.proofs.Common.{◌≡◌, ◌++◌, replicate, string_bytes}
use Rattle.printed_words.specs.Spaced.{spaced_words}
use Rattle.solution_text.specs.Printed.{piece_word}
use Rattle.solution_text.proofs.printing.put_run.Given as goal

abbrev pub invariant-loop-i : goal.invariant-loop-i
invariant-loop-i l = string_bytes l.text ≡ string_bytes l.fn.text ++ spaced_words (replicate l._i (piece_word l.number 11))
