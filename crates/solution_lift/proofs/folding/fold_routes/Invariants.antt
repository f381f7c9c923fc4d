use Rattle.srp_core.specs.Filling.{IsFoldedPart}
use Rattle.solution_lift.proofs.TasksDone.{IsSoFar}
use Rattle.solution_lift.proofs.folding.fold_routes.Given as goal

abbrev pub invariant-loop-task : goal.invariant-loop-task
invariant-loop-task l = record {
  part : IsFoldedPart l.srp l.small l.p l.labels l.lower;
  so_far : IsSoFar l.task-items l.lower l.task-index;
}
