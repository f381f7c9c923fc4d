use Rattle.srp_core.proofs.Chains as chains_of
use Rattle.srp_core.proofs.laws.chains.Goals as goal

pub returns : goal.returns
returns c = λ problem labels good st u wanted route before after e p h. chains_of.chains problem good labels st u wanted route before after e p h
