use Rattle.std.proofs.Common.{◌≡◌, ◌++◌, map, drop}
use Rattle.cfg_ast.specs.text.Lines.{texts}
use Rattle.ask_words.proofs.lines.bytes_of.Given as goal

abbrev pub invariant-loop-word : goal.invariant-loop-word
invariant-loop-word l = (map (λ word. word.now) l.bytes.items ++ texts l.text (drop l.word-index l.words) ≡ texts l.text l.words)
