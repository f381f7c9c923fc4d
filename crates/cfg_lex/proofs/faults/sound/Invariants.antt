use Rattle.std.proofs.Common.{length, ◌-◌, ◌+◌, ◌<◌, ◌≡◌, ◌≤◌, true}
use Rattle.cfg_ast.specs.text.Lines.{begins_line, lines_in, lines_of, pieces_from}
use Rattle.cfg_lex.specs.Places.{without_value}
use Rattle.cfg_lex.proofs.faults.sound.Given as goal

-- what the rest gives is what all lines give
abbrev pub invariant-loop-from : goal.invariant-loop-from
invariant-loop-from l = record {
  few : l.number ≤ l.from;
  inside : l.from ≤ length l.bytes + 1;
  begins : l.from < length l.bytes → begins_line l.bytes l.from ≡ true;
  same : without_value (lines_in l.bytes (pieces_from l.bytes (l.number + 1) l.from)) ≡ without_value (lines_of l.bytes);
}

abbrev pub decreases-loop-from : goal.decreases-loop-from
decreases-loop-from l = length l.bytes + 1 - l.from
