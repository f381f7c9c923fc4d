use Rattle.srp_core.proofs.CoarsestExists as coarsest_by
use Rattle.srp_core.proofs.JoinExists as exists_by
use Rattle.srp_core.proofs.Joins as joins_of
use Rattle.srp_core.proofs.laws.joins.Goals as goal

pub returns-clause-exists : goal.returns-clause-exists
returns-clause-exists c = λ routers first second total. exists_by.join_exists routers first second total

pub returns-clause-admissible : goal.returns-clause-admissible
returns-clause-admissible c = λ problem first second joined good a b join. joins_of.join_admissible problem good first second joined a b join

pub returns-clause-one_coarsest : goal.returns-clause-one_coarsest
returns-clause-one_coarsest c = λ problem first second one other. other.refined first one.admissible

pub returns-clause-coarsest : goal.returns-clause-coarsest
returns-clause-coarsest c = λ problem good. coarsest_by.coarsest_exists problem good
