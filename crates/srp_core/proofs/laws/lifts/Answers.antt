use Rattle.srp_core.proofs.LiftedLabels as lifted
use Rattle.srp_core.proofs.Determined as determined
use Rattle.srp_core.proofs.laws.lifts.Goals as goal

pub returns-clause-stable : goal.returns-clause-stable
returns-clause-stable c = λ problem small groups labels lower good goods adm q bgp st lift.
    (lifted.lift_solves problem good groups adm small goods q bgp lower st labels lift).0

pub returns-clause-corresponds : goal.returns-clause-corresponds
returns-clause-corresponds c = λ problem small groups labels lower good goods adm q bgp st lift.
    (lifted.lift_solves problem good groups adm small goods q bgp lower st labels lift).1

pub returns-clause-determined : goal.returns-clause-determined
returns-clause-determined c = λ problem small groups labels others lower good goods adm q bgp st lift lift'.
    determined.lift_unique problem good groups adm small goods q bgp lower st labels others lift lift'
