use Rattle.dd_core.proofs.ShownLemmas.{value_of_kept}
use Rattle.dd_core.proofs.laws.values_are_kept.Goals as goal

pub returns : goal.returns
returns c = value_of_kept
