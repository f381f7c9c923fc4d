use Rattle.solution_lift.proofs.TaskOrder.{order_is}
use Rattle.solution_lift.proofs.tasks.tasks_of.Goals as goal

pub returns : goal.returns
returns c = order_is c.args.asked.now c.args.at.now _ _ c.in_ok-tasks.ensures c.in_ok-sort_by_size.ensures
