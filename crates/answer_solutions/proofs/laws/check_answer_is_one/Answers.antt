use Rattle.answer_solutions.proofs.OneAnswer.{check_answer_is_one}
use Rattle.answer_solutions.proofs.laws.check_answer_is_one.Goals as goal

pub returns : goal.returns
returns c = check_answer_is_one
