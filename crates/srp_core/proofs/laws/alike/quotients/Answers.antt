use Rattle.srp_core.proofs.AlikeQuotient as of
use Rattle.srp_core.proofs.laws.alike.quotients.Goals as goal

pub returns : goal.returns
returns c = λ problem other small less groups above below quotient. of.same_quotient problem other small less above below groups quotient
