use Rattle.route_run.proofs.HasOrder.{has_order}
use Rattle.route_run.proofs.OneOrder.{one_order}
use Rattle.route_run.proofs.laws.one_order.Goals as goal

pub returns-clause-exists : goal.returns-clause-exists
returns-clause-exists c = λ problem labels. has_order labels problem

pub returns-clause-unique : goal.returns-clause-unique
returns-clause-unique c = λ problem labels first second a b. one_order labels problem first second a b
