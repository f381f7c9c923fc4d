use Rattle.reading_laws.proofs.FormFaults.{first_fault_decides}
use Rattle.reading_laws.proofs.first_fault_decides.Goals as goal

pub returns : goal.returns
returns c = first_fault_decides
