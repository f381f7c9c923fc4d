use Rattle.std.proofs.Common.{◌≡◌}
use Rattle.std.specs.Prelude.{filter_map}
use Rattle.std.specs.List.{range_with_len}
use Rattle.solution_lift.specs.Carrying.{task_at}
use Rattle.solution_lift.proofs.tasks.tasks_by_place.Given as goal

abbrev pub invariant-loop-place : goal.invariant-loop-place
invariant-loop-place l = l.tasks.items ≡ filter_map (task_at l.asked l.at) (range_with_len 0 l.place)
