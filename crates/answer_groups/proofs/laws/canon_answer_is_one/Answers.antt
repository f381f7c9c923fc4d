use Rattle.answer_groups.proofs.OneAnswer.{canon_answer_is_one}
use Rattle.answer_groups.proofs.laws.canon_answer_is_one.Goals as goal

pub returns : goal.returns
returns c = canon_answer_is_one
