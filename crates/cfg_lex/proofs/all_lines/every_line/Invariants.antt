use Rattle.std.proofs.Common.{◌≡◌, ◌+◌, ◌-◌, ◌≤◌, ◌<◌, ◌++◌, length, map, true}
use Rattle.cfg_ast.specs.text.Lines.{begins_line, line_of, pieces_from}
use Rattle.cfg_ast.specs.text.Members.{all_lines_of}
use Rattle.cfg_lex.proofs.all_lines.every_line.Given as goal

-- what stands so far, and what the rest gives
abbrev pub invariant-loop-from : goal.invariant-loop-from
invariant-loop-from l = record {
  few : l.number ≤ l.from;
  inside : l.from ≤ length l.bytes + 1;
  begins : l.from < length l.bytes → begins_line l.bytes l.from ≡ true;
  found : l.found ++ map (line_of l.bytes) (pieces_from l.bytes (l.number + 1) l.from) ≡ all_lines_of l.bytes;
}

abbrev pub decreases-loop-from : goal.decreases-loop-from
decreases-loop-from l = length l.bytes + 1 - l.from
