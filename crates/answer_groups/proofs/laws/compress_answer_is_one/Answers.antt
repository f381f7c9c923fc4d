use Rattle.answer_groups.proofs.OneAnswer.{compress_answer_is_one}
use Rattle.answer_groups.proofs.laws.compress_answer_is_one.Goals as goal

pub returns : goal.returns
returns c = compress_answer_is_one
