use Rattle.std.proofs.Common.{length, ◌-◌, ◌+◌, ◌≡◌, true, Ok}
use Rattle.std.specs.Result.{is_ok}
use Rattle.cfg_ast.specs.text.Lines.{lines_of}
use Rattle.cfg_lex.specs.Places.{IsPlace, lines_from}
use Rattle.cfg_parse.specs.Rest.{answer_of, state_after}
use Rattle.cfg_parse.proofs.reading.read_lines.Given as goal

-- what the rest makes of what stands so far is what all lines make
abbrev pub invariant-loop-line : goal.invariant-loop-line
invariant-loop-line l = record {
  is_place : IsPlace l.bytes l.place;
  sound : is_ok (lines_from l.bytes l.place) ≡ true;
  same : state_after l.bytes l.state (answer_of l.last) (lines_from l.bytes l.place) ≡ state_after l.bytes l.fn.state (Ok tt) (lines_of l.bytes);
}

abbrev pub decreases-loop-line : goal.decreases-loop-line
decreases-loop-line l = length l.bytes + 1 - l.place.from
