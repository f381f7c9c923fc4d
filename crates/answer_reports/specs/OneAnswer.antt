-- A command has one answer.
use Rattle.std.specs.Prelude.{◌≡◌, ℕ}
use Rattle.cfg_ast.specs.declared.network.Network.{Network}
use Rattle.answer_kit.specs.Outcome.{Outcome}
use Rattle.answer_reports.specs.ReportAnswers.{IsReportAnswer, IsJsonAnswer}
use Rattle.answer_reports.specs.Summaries.{IsSummaryAnswer}
use Rattle.answer_reports.specs.Trials.{IsTrialAnswer}

abbrev pub ReportAnswerIsOne : Type 0
ReportAnswerIsOne = (network : Network) (number : ℕ) (o p : Outcome) → IsReportAnswer network number o → IsReportAnswer network number p → o ≡ p

abbrev pub JsonAnswerIsOne : Type 0
JsonAnswerIsOne = (network : Network) (number : ℕ) (o p : Outcome) → IsJsonAnswer network number o → IsJsonAnswer network number p → o ≡ p

abbrev pub SummaryAnswerIsOne : Type 0
SummaryAnswerIsOne = (network : Network) (o p : Outcome) → IsSummaryAnswer network o → IsSummaryAnswer network p → o ≡ p

abbrev pub TrialAnswerIsOne : Type 0
TrialAnswerIsOne = (size : ℕ) (o p : Outcome) → IsTrialAnswer size o → IsTrialAnswer size p → o ≡ p
