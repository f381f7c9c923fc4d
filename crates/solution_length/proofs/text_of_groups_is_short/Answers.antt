use Rattle.solution_length.proofs.Short.{text_of_groups_is_short}
use Rattle.solution_length.proofs.text_of_groups_is_short.Goals as goal

pub returns : goal.returns
returns c = text_of_groups_is_short c.stable_of_groups_is_in_range.ensures
