use Rattle.std.proofs.Common.{◌≡◌, List, length}
use Rattle.cfg_ast.specs.text.Lines.{words_of}
use Rattle.route_run.specs.Reading.{answer_with}
use Rattle.route_run.specs.Schedules.{LineWord}
use Rattle.route_run.proofs.reading.read_line.Given as goal

-- the words that are left give the rest of the answer
abbrev pub invariant-loop-word : goal.invariant-loop-word
invariant-loop-word l = (later : List LineWord) →
    answer_with l.names l.fn.schedule l.line (words_of l.text) later ≡ answer_with l.names l.schedule l.line (words_of l.rest) later

abbrev pub decreases-loop-word : goal.decreases-loop-word
decreases-loop-word l = length l.rest
