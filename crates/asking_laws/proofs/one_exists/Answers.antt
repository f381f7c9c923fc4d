use Rattle.asking_laws.proofs.Exists.{has_solution}
use Rattle.asking_laws.proofs.one_exists.Goals as goal

pub returns : goal.returns
returns c = λ problem good none. has_solution problem good none
