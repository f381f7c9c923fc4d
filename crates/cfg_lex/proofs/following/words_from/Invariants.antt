use Rattle.std.proofs.Common.{length, ◌-◌, ◌≡◌, ◌≤◌, ◌++◌}
use Rattle.cfg_ast.specs.text.Lines.{words_between}
use Rattle.cfg_lex.specs.Odd.{odd_end}
use Rattle.cfg_lex.proofs.following.words_from.Given as goal

-- the words so far, and those of the rest
abbrev pub invariant-loop-i : goal.invariant-loop-i
invariant-loop-i l = record {
  front : l.from ≤ l.i;
  below : l.i ≤ odd_end l.bytes l.from;
  words : l.spans ++ words_between l.bytes l.i (odd_end l.bytes l.from) ≡ words_between l.bytes l.from (odd_end l.bytes l.from);
}

abbrev pub decreases-loop-i : goal.decreases-loop-i
decreases-loop-i l = length l.bytes - l.i
