use Rattle.workflow_laws.proofs.Certified.{what_is_certified_is_verified}
use Rattle.workflow_laws.proofs.what_is_certified_is_verified.Goals as goal

pub returns : goal.returns
returns c = what_is_certified_is_verified c.what_is_read_is_well.ensures c.what_is_certified_is_verified.ensures c.verify_answer_is_one.ensures
