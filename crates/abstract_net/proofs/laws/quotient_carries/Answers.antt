use Rattle.abstract_net.proofs.Carried.{quotient_carries}
use Rattle.abstract_net.proofs.laws.quotient_carries.Goals as goal

pub returns : goal.returns
returns c = quotient_carries
