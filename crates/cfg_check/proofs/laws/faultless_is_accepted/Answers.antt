use Rattle.cfg_check.proofs.Accepted.{faultless_is_accepted}
use Rattle.cfg_check.proofs.laws.faultless_is_accepted.Goals as goal

pub returns : goal.returns
returns c = faultless_is_accepted
