use Rattle.std.proofs.Common.{take}
use Rattle.solution_answers.specs.Pairwise.{Pairwise}
use Rattle.ask_answers.specs.Reading.{IsAskedLine}
use Rattle.ask_answers.proofs.Lines.{asking}
use Rattle.ask_answers.proofs.reading.asked_lines.Given as goal

abbrev pub invariant-loop-line : goal.invariant-loop-line
invariant-loop-line l = Pairwise (IsAskedLine l.checked.network) (asking l.text (take l.line-index l.lines)) l.asked
