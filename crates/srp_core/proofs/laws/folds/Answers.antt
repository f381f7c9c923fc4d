use Rattle.srp_core.proofs.FoldedLabels as folded
use Rattle.srp_core.proofs.Determined as determined
use Rattle.srp_core.proofs.laws.folds.Goals as goal

pub returns-clause-stable : goal.returns-clause-stable
returns-clause-stable c = λ problem small groups labels lower good goods adm q bgp st fold.
    (folded.fold_solves problem good groups adm small goods q bgp labels st lower fold).0

pub returns-clause-corresponds : goal.returns-clause-corresponds
returns-clause-corresponds c = λ problem small groups labels lower good goods adm q bgp st fold.
    (folded.fold_solves problem good groups adm small goods q bgp labels st lower fold).1

pub returns-clause-determined : goal.returns-clause-determined
returns-clause-determined c = λ problem small groups labels lower others good goods adm q bgp st fold fold'.
    determined.fold_unique problem good groups adm small goods q bgp labels st lower others fold fold'
