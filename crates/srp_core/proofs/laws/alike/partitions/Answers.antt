use Rattle.srp_core.proofs.Alike as alike
use Rattle.srp_core.proofs.laws.alike.partitions.Goals as goal

pub returns-clause-admissible : goal.returns-clause-admissible
returns-clause-admissible c = λ first second groups same admissible. alike.same_admissible first second same groups admissible

pub returns-clause-coarsest : goal.returns-clause-coarsest
returns-clause-coarsest c = λ first second groups same coarsest. alike.same_coarsest first second same groups coarsest
