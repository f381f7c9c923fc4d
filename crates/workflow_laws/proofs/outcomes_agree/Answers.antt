use Rattle.workflow_laws.proofs.Agree.{outcomes_agree}
use Rattle.workflow_laws.proofs.outcomes_agree.Goals as goal

pub returns : goal.returns
returns c = outcomes_agree c.outcome_is_one.ensures
