use Rattle.srp_core.proofs.OspfLabels as ospf_labels
use Rattle.srp_core.proofs.laws.ospf_folds.Goals as goal

pub returns-clause-stable : goal.returns-clause-stable
returns-clause-stable c = λ problem small groups labels lower good goods adm q ospf st total equal.
    (ospf_labels.ospf_fold problem good groups adm small goods q ospf labels st lower total equal).0

pub returns-clause-corresponds : goal.returns-clause-corresponds
returns-clause-corresponds c = λ problem small groups labels lower good goods adm q ospf st total equal.
    (ospf_labels.ospf_fold problem good groups adm small goods q ospf labels st lower total equal).1
