use Rattle.srp_core.proofs.GroupMatching as groups_match
use Rattle.srp_core.proofs.laws.to_quotient.Goals as goal

pub returns : goal.returns
returns c = λ problem small groups labels good goods adm q st. groups_match.below problem good groups adm small goods q labels st
