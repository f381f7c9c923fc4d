use Rattle.std.proofs.Common.{◌≤◌, IfSome}
use Rattle.cfg_ast.specs.meaning.Classes.{classes_of}
use Rattle.solution_answers.specs.Writing.{WritesEach}
use Rattle.ask_classes.specs.Tasks.{IsClassPart}
use Rattle.ask_answers.specs.Atlases.{IsAtlasOf, IsBuiltForSome}
use Rattle.ask_answers.specs.Reports.{manner_of}
use Rattle.ask_answers.proofs.Spans.{chosen_to}
use Rattle.ask_answers.proofs.reports.put_report.Given as goal

abbrev pub invariant-loop-place : goal.invariant-loop-place
invariant-loop-place l = record {
  atlas : IsAtlasOf l.checked.network l.atlas;
  last : IfSome l.last (IsBuiltForSome l.checked.network);
  written : WritesEach (IsClassPart (manner_of l.shows l.request) l.checked.network l.request)
      (chosen_to (classes_of l.checked.network) l.fn.span.from l.place) l.initial.bytes.items l.bytes.items l.all;
  within : l.fn.span.from ≤ l.fn.span.upto → l.place ≤ l.fn.span.upto;
  empty : l.fn.span.upto ≤ l.fn.span.from → l.place ≤ l.fn.span.from;
}
