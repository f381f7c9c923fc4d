use Rattle.solution_length.proofs.Short.{stable_text_is_short}
use Rattle.solution_length.proofs.stable_text_is_short.Goals as goal

pub returns : goal.returns
returns c = stable_text_is_short c.stable_is_in_range.ensures
