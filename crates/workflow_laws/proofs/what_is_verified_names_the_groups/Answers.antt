use Rattle.workflow_laws.proofs.Certified.{what_is_verified_names_the_groups}
use Rattle.workflow_laws.proofs.what_is_verified_names_the_groups.Goals as goal

pub returns : goal.returns
returns c = what_is_verified_names_the_groups c.what_is_verified_names_the_groups.ensures
