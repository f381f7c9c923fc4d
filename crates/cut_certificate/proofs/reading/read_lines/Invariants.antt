use Rattle.std.proofs.Common.{◌≡◌, ◌+◌, ◌-◌, ◌≤◌, ◌<◌, length, map, true}
use Rattle.cfg_ast.specs.text.Lines.{begins_line, line_of, pieces_from}
use Rattle.cfg_ast.specs.text.Members.{all_lines_of}
use Rattle.cfg_ast.specs.text.TextLines.{text_line}
use Rattle.numbered_names.specs.NamePlaces.{place_in}
use Rattle.cut_certificate.specs.Texts.{opening, certificate_from}
use Rattle.cut_certificate.proofs.reading.read_lines.Given as goal

-- the lines that are left give the answer
abbrev pub invariant-loop-from : goal.invariant-loop-from
invariant-loop-from l = record {
  few : l.line ≤ l.from;
  inside : l.from ≤ length l.bytes + 1;
  begins : l.from < length l.bytes → begins_line l.bytes l.from ≡ true;
  left : l.line + length (pieces_from l.bytes (l.line + 1) l.from) ≡ length (all_lines_of l.bytes);
  total : length l.standing.blocks.numbers ≡ l.graph.count;
  answer : certificate_from l.graph.edges (place_in l.places) (length (all_lines_of l.bytes) + 1)
      (map (text_line l.bytes) (map (line_of l.bytes) (pieces_from l.bytes (l.line + 1) l.from))) l.standing
      ≡ certificate_from l.graph.edges (place_in l.places) (length (all_lines_of l.bytes) + 1) (map (text_line l.bytes) (all_lines_of l.bytes))
      (opening l.graph);
}

abbrev pub decreases-loop-from : goal.decreases-loop-from
decreases-loop-from l = length l.bytes + 1 - l.from
