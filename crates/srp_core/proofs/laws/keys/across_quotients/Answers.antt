use Rattle.srp_core.proofs.GroupMatching.{IsIn, quotient_matching}
use Rattle.srp_core.proofs.Matching.{keys_agree}
use Rattle.srp_core.proofs.laws.keys.across_quotients.Goals as goal

pub returns : goal.returns
returns c = λ S Q groups good goodq adm q route. keys_agree S Q (IsIn S groups) (quotient_matching S good groups adm Q goodq q) route
