use Rattle.solution_round_trip.proofs.InRange.{stable_of_groups_is_in_range}
use Rattle.solution_round_trip.proofs.stable_of_groups_is_in_range.Goals as goal

pub returns : goal.returns
returns c = stable_of_groups_is_in_range
