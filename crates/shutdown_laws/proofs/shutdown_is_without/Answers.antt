use Rattle.shutdown_laws.proofs.ShutProblem.{is_problem}
use Rattle.shutdown_laws.proofs.shutdown_is_without.Goals as goal

pub returns : goal.returns
returns c = λ n prefix problem other router item faultless bgp of without. is_problem n prefix problem other router item faultless bgp of without
