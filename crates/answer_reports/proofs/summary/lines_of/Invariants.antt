use Rattle.std.proofs.Common.{IfSome, take, string_bytes}
use Rattle.driver.specs.Steps.{IsProblemOfSome, IsSharedOf}
use Rattle.answer_reports.specs.Summaries.{AreSummaryLines}
use Rattle.answer_reports.proofs.summary.lines_of.Given as goal

abbrev pub invariant-loop-i : goal.invariant-loop-i
invariant-loop-i l = record {
  shared : IsSharedOf l.checked.network l.shared;
  last : IfSome l.last (IsProblemOfSome l.checked.network);
  lines : AreSummaryLines l.checked.network 1 (take l.i l.classes) (string_bytes l.text);
}
