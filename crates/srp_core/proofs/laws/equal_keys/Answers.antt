use Rattle.srp_core.proofs.GroupMatching as groups_match
use Rattle.srp_core.proofs.laws.equal_keys.Goals as goal

pub returns : goal.returns
returns c = λ problem groups labels good adm st u v hu hv same.
    groups_match.equal_keys problem good groups adm labels st u v (record { left = hu; right = hv; same = same })
