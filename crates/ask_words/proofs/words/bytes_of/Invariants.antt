use Rattle.std.proofs.Common.{◌≡◌, ◌++◌, map, drop}
use Rattle.ask_words.specs.Words.{bytes_of_words}
use Rattle.ask_words.proofs.words.bytes_of.Given as goal

abbrev pub invariant-loop-word : goal.invariant-loop-word
invariant-loop-word l = (map (λ word. word.now) l.bytes.items ++ bytes_of_words (drop l.word-index l.words) ≡ bytes_of_words l.words)
