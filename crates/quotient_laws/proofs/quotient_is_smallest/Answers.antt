use Rattle.quotient_laws.proofs.CarriedBack.{quotient_is_smallest}
use Rattle.quotient_laws.proofs.quotient_is_smallest.Goals as goal

pub returns : goal.returns
returns c = quotient_is_smallest
