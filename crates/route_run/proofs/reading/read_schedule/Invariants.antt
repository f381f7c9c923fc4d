use Rattle.std.proofs.Common.{◌≡◌, ◌+◌, ◌-◌, ◌≤◌, ◌<◌, length, true}
use Rattle.cfg_ast.specs.text.Lines.{begins_line}
use Rattle.route_run.specs.Reading.{preceded}
use Rattle.route_run.specs.Schedules.{schedule_of_words, schedule_of_text}
use Rattle.route_run.proofs.WordsLeft.{words_left}
use Rattle.route_run.proofs.reading.read_schedule.Given as goal

-- the words that are left give the rest of the answer
abbrev pub invariant-loop-from : goal.invariant-loop-from
invariant-loop-from l = record {
  few : l.line ≤ l.from;
  inside : l.from ≤ length l.bytes + 1;
  begins : l.from < length l.bytes → begins_line l.bytes l.from ≡ true;
  answer : preceded l.schedule (schedule_of_words l.names (words_left l.bytes (l.line + 1) l.from)) ≡ schedule_of_text l.names l.bytes;
}

abbrev pub decreases-loop-from : goal.decreases-loop-from
decreases-loop-from l = length l.bytes + 1 - l.from
