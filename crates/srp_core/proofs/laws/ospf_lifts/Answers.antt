use Rattle.srp_core.proofs.OspfLabels as ospf_labels
use Rattle.srp_core.proofs.laws.ospf_lifts.Goals as goal

pub returns-clause-stable : goal.returns-clause-stable
returns-clause-stable c = λ problem small groups labels lower good goods adm q ospf st total equal.
    (ospf_labels.ospf_lift problem good groups adm small goods q ospf lower st labels total equal).0

pub returns-clause-corresponds : goal.returns-clause-corresponds
returns-clause-corresponds c = λ problem small groups labels lower good goods adm q ospf st total equal.
    (ospf_labels.ospf_lift problem good groups adm small goods q ospf lower st labels total equal).1
