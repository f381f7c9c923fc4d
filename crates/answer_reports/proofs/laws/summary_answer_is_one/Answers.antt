use Rattle.answer_reports.proofs.OneAnswer.{summary_answer_is_one}
use Rattle.answer_reports.proofs.laws.summary_answer_is_one.Goals as goal

pub returns : goal.returns
returns c = summary_answer_is_one c.built_problem_is_one.ensures
