use Rattle.std.proofs.Common.{length, ◌-◌, ◌+◌, ◌≡◌, ◌≤◌}
use Rattle.cfg_lex.specs.Places.{IsPlace, lines_from}
use Rattle.cfg_lex.proofs.following.line_from.Given as goal

-- what follows from here is what follows the place
abbrev pub invariant-loop-at : goal.invariant-loop-at
invariant-loop-at l = record {
  is_place : IsPlace l.bytes l.at;
  behind : l.fn.place.from ≤ l.at.from;
  same : lines_from l.bytes l.at ≡ lines_from l.bytes l.fn.place;
}

abbrev pub decreases-loop-at : goal.decreases-loop-at
decreases-loop-at l = length l.bytes + 1 - l.at.from
