use Rattle.asking_laws.proofs.NoTies.{holds}
use Rattle.asking_laws.proofs.no_tie_holds.Goals as goal

pub returns : goal.returns
returns c = λ problem labels good none st tie. holds problem good none labels st tie
