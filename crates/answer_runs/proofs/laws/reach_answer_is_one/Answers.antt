use Rattle.answer_runs.proofs.OneAnswer.{reach_answer_is_one}
use Rattle.answer_runs.proofs.laws.reach_answer_is_one.Goals as goal

pub returns : goal.returns
returns c = reach_answer_is_one
