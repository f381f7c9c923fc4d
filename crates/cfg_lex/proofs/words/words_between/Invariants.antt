use Rattle.std.proofs.Common.{◌≡◌, ◌-◌, ◌≤◌, ◌++◌}
use Rattle.cfg_ast.specs.text.Lines.{words_between}
use Rattle.cfg_lex.proofs.words.words_between.Given as goal

-- the words so far, and those of the rest
abbrev pub invariant-loop-i : goal.invariant-loop-i
invariant-loop-i l = (l.from ≤ l.i) × (l.i ≤ l.upto) × (l.found ++ words_between l.bytes l.i l.upto ≡ words_between l.bytes l.from l.upto)

abbrev pub decreases-loop-i : goal.decreases-loop-i
decreases-loop-i l = l.upto - l.i
