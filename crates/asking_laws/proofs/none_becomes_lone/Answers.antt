use Rattle.asking_laws.proofs.Left.{none_becomes_lone}
use Rattle.asking_laws.proofs.none_becomes_lone.Goals as goal

pub returns : goal.returns
returns c = λ problem other down good none without. none_becomes_lone problem other down good without none
