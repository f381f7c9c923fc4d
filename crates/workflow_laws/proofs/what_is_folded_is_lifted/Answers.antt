use Rattle.workflow_laws.proofs.RoundTrips.{what_is_folded_is_lifted}
use Rattle.workflow_laws.proofs.what_is_folded_is_lifted.Goals as goal

pub returns : goal.returns
returns c = what_is_folded_is_lifted c.what_is_read_is_well.ensures c.built_problem_is_one.ensures c.fold_is_read_back.ensures c.printed_is_short.ensures
