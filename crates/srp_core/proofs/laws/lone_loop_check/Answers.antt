use Rattle.srp_core.proofs.Chains as chains_of
use Rattle.srp_core.proofs.laws.lone_loop_check.Goals as goal

pub returns : goal.returns
returns c = λ problem small groups good goods adm q u route other h lone same.
    chains_of.lone_checks problem good groups adm small goods q u route other h lone same
