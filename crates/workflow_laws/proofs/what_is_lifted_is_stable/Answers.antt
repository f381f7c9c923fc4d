use Rattle.workflow_laws.proofs.RoundTrips.{what_is_lifted_is_stable}
use Rattle.workflow_laws.proofs.what_is_lifted_is_stable.Goals as goal

pub returns : goal.returns
returns c = what_is_lifted_is_stable c.what_is_read_is_well.ensures c.lift_is_read_back.ensures c.printed_is_short.ensures
