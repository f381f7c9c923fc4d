use Rattle.srp_core.proofs.LiftedLabels as lifted
use Rattle.srp_core.proofs.laws.tracking.Goals as goal

pub returns : goal.returns
returns c = λ problem small groups labels lower good goods adm q bgp st lift u route other e f.
    lifted.tracking problem good groups adm small goods q bgp lower st labels lift u route other e f
