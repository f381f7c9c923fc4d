use Rattle.ask_top.proofs.OneOutcome.{ending_is_one}
use Rattle.ask_top.proofs.laws.ending_is_one.Goals as goal

pub returns : goal.returns
returns c = ending_is_one
