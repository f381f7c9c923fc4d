use Rattle.std.proofs.Common.{take}
use Rattle.solution_answers.specs.Writing.{WritesEach}
use Rattle.ask_answers.specs.Atlases.{IsAtlasOf}
use Rattle.ask_answers.specs.Reading.{IsAskedReport}
use Rattle.ask_answers.proofs.questions.put_all_asked.Given as goal

abbrev pub invariant-loop-one : goal.invariant-loop-one
invariant-loop-one l = record {
  atlas : IsAtlasOf l.checked.network l.atlas;
  written : WritesEach (IsAskedReport l.checked.network) (take l.one-index l.asked) l.initial.bytes.items l.bytes.items l.all;
}
