use Rattle.srp_quotient.proofs.Quotient.{quotient_is_quotient}
use Rattle.srp_quotient.proofs.laws.quotient_is_quotient.Goals as goal

pub returns : goal.returns
returns c = quotient_is_quotient
