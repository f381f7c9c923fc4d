use Rattle.std.proofs.Common.{◌≡◌, ◌+◌, ◌-◌, ◌≤◌, ◌<◌, length, true}
use Rattle.cfg_ast.specs.text.Lines.{begins_line, lines_in, pieces_from, lines_of}
use Rattle.cfg_ast.proofs.Pieces.{with_front}
use Rattle.cfg_lex.proofs.cutting.lines.Given as goal

-- what stands so far, and what the rest gives
abbrev pub invariant-loop-from : goal.invariant-loop-from
invariant-loop-from l = record {
  few : l.number ≤ l.from;
  inside : l.from ≤ length l.bytes + 1;
  begins : l.from < length l.bytes → begins_line l.bytes l.from ≡ true;
  found : with_front l.found (lines_in l.bytes (pieces_from l.bytes (l.number + 1) l.from)) ≡ lines_of l.bytes;
}

abbrev pub decreases-loop-from : goal.decreases-loop-from
decreases-loop-from l = length l.bytes + 1 - l.from
