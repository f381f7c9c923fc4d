use Rattle.srp_core.proofs.Chains as chains_of
use Rattle.srp_core.proofs.laws.loop_check.Goals as goal

pub returns : goal.returns
returns c = λ problem labels good st edge from route i l e s h. chains_of.loop_checks problem good labels st edge from route i l e s h
