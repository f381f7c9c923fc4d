use Rattle.answer_groups.proofs.OneAnswer.{groups_answer_is_one}
use Rattle.answer_groups.proofs.laws.groups_answer_is_one.Goals as goal

pub returns : goal.returns
returns c = groups_answer_is_one
