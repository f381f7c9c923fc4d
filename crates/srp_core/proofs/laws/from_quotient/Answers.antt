use Rattle.srp_core.proofs.GroupMatching as groups_match
use Rattle.srp_core.proofs.laws.from_quotient.Goals as goal

pub returns : goal.returns
returns c = λ problem small groups lower good goods adm q st. groups_match.above problem good groups adm small goods q lower st
