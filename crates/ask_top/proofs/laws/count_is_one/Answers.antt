use Rattle.ask_top.proofs.OneOutcome.{count_is_one}
use Rattle.ask_top.proofs.laws.count_is_one.Goals as goal

pub returns : goal.returns
returns c = count_is_one
