use Rattle.answer_runs.proofs.OneAnswer.{run_answer_is_one}
use Rattle.answer_runs.proofs.laws.run_answer_is_one.Goals as goal

pub returns : goal.returns
returns c = run_answer_is_one
