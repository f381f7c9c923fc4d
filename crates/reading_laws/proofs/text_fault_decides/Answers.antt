use Rattle.reading_laws.proofs.FormFaults.{text_fault_decides}
use Rattle.reading_laws.proofs.text_fault_decides.Goals as goal

pub returns : goal.returns
returns c = text_fault_decides
