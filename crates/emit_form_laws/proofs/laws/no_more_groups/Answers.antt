use Rattle.emit_form_laws.proofs.Groups as groups
use Rattle.emit_form_laws.proofs.laws.no_more_groups.Goals as goal

pub returns : goal.returns
returns c = groups.few_groups
