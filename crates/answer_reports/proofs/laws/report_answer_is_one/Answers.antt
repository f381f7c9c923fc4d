use Rattle.answer_reports.proofs.OneAnswer.{report_answer_is_one}
use Rattle.answer_reports.proofs.laws.report_answer_is_one.Goals as goal

pub returns : goal.returns
returns c = report_answer_is_one c.built_problem_is_one.ensures
