use Rattle.line_number_laws.proofs.Faults as faults
use Rattle.line_number_laws.proofs.laws.faults_aside.Goals as goal

pub returns : goal.returns
returns c = faults.aside c.few_communities.ensures
