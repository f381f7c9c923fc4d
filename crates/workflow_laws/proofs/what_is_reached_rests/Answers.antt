use Rattle.workflow_laws.proofs.Rests.{what_is_reached_rests}
use Rattle.workflow_laws.proofs.what_is_reached_rests.Goals as goal

pub returns : goal.returns
returns c = what_is_reached_rests c.what_is_read_is_well.ensures c.given_is_well_formed.ensures
