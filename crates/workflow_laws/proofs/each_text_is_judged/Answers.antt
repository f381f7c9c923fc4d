use Rattle.workflow_laws.proofs.Judged.{each_text_is_judged}
use Rattle.workflow_laws.proofs.each_text_is_judged.Goals as goal

pub returns : goal.returns
returns c = each_text_is_judged c.text_fault_decides.ensures
