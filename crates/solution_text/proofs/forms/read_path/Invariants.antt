use Rattle.std.proofs.Common.{◌≡◌, length}
use Rattle.cfg_ast.specs.text.Lines.{words_of}
use Rattle.solution_text.specs.Forms.{path_of_words}
use Rattle.solution_text.proofs.PathWords.{behind_path}
use Rattle.solution_text.proofs.forms.read_path.Given as goal

-- the numbers so far, and what the rest gives
abbrev pub invariant-loop-word : goal.invariant-loop-word
invariant-loop-word l = behind_path l.path.items (path_of_words (words_of l.rest)) ≡ path_of_words (words_of l.line)

abbrev pub decreases-loop-word : goal.decreases-loop-word
decreases-loop-word l = length l.rest
