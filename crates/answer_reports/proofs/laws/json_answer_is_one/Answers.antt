use Rattle.answer_reports.proofs.OneAnswer.{json_answer_is_one}
use Rattle.answer_reports.proofs.laws.json_answer_is_one.Goals as goal

pub returns : goal.returns
returns c = json_answer_is_one c.built_problem_is_one.ensures
