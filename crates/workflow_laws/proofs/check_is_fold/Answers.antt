use Rattle.workflow_laws.proofs.Down.{check_is_fold}
use Rattle.workflow_laws.proofs.check_is_fold.Goals as goal

pub returns : goal.returns
returns c = check_is_fold
