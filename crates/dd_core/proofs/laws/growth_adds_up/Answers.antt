use Rattle.dd_core.proofs.ShownLemmas.{grows_trans}
use Rattle.dd_core.proofs.laws.growth_adds_up.Goals as goal

pub returns : goal.returns
returns c = grows_trans
