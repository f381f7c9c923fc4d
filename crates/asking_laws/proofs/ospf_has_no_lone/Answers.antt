use Rattle.asking_laws.proofs.Left.{ospf_none_lone}
use Rattle.asking_laws.proofs.ospf_has_no_lone.Goals as goal

pub returns : goal.returns
returns c = λ problem good ospf. ospf_none_lone problem good ospf
