use Rattle.srp_core.proofs.FoldExists as folds
use Rattle.srp_core.proofs.LiftExists as lifts
use Rattle.srp_core.proofs.laws.lifts_and_folds_exist.Goals as goal

pub returns-clause-lift : goal.returns-clause-lift
returns-clause-lift c = λ problem small groups lower good goods adm q bgp st. lifts.lift_exists problem good groups adm small goods q bgp lower st

pub returns-clause-fold : goal.returns-clause-fold
returns-clause-fold c = λ problem small groups labels good goods adm q bgp st. folds.fold_exists problem good groups adm small goods q bgp labels st
