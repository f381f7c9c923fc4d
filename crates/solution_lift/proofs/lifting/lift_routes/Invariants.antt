use Rattle.srp_core.specs.Filling.{IsLiftedPart}
use Rattle.solution_lift.proofs.TasksDone.{IsSoFar}
use Rattle.solution_lift.proofs.lifting.lift_routes.Given as goal

abbrev pub invariant-loop-task : goal.invariant-loop-task
invariant-loop-task l = record {
  part : IsLiftedPart l.srp l.small l.p l.labels l.upper;
  so_far : IsSoFar l.task-items l.upper l.task-index;
}
