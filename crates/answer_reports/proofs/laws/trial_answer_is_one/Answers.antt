use Rattle.answer_reports.proofs.OneAnswer.{trial_answer_is_one}
use Rattle.answer_reports.proofs.laws.trial_answer_is_one.Goals as goal

pub returns : goal.returns
returns c = trial_answer_is_one c.built_problem_is_one.ensures
