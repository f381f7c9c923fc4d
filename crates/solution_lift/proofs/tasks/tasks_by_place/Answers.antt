use Rattle.solution_lift.specs.Carrying.{task_at}
use Rattle.solution_lift.proofs.Ranges.{filter_more}
use Rattle.solution_lift.proofs.tasks.tasks_by_place.Goals as goal

pub loop-place-preserved : goal.loop-place-preserved
loop-place-preserved c = filter_more (task_at c.args.asked.now c.args.at.now) _ _ c.loop-place.place c.task_at.result c.loop-place.invariant
    c.in_ok-push_some.ensures c.task_at.ensures
