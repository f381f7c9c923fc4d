use Rattle.std.proofs.Common.{◌≡◌, ◌++◌, drop}
use Rattle.std.specs.List.{AllByRecursion, filter_map}
use Rattle.cfg_ast.specs.text.Lines.{IsWordIn, texts}
use Rattle.cfg_ast.specs.text.Words.{as_number_word}
use Rattle.cfg_forms_policy.proofs.entry.as_numbers.Given as goal

abbrev pub invariant-loop-word : goal.invariant-loop-word
invariant-loop-word l = (l.numbers ++ filter_map as_number_word (texts l.bytes (drop l.word-index l.words)) ≡ filter_map as_number_word (texts l.bytes l.words))
    × AllByRecursion (IsWordIn l.bytes) (drop l.word-index l.words)
