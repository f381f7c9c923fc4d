use Rattle.srp_core.proofs.Alike as alike
use Rattle.srp_core.proofs.laws.alike.same_candidates.Goals as goal

pub returns-clause-labels : goal.returns-clause-labels
returns-clause-labels c = λ first second labels same fits. alike.same_labels first second same labels fits

pub returns-clause-lists : goal.returns-clause-lists
returns-clause-lists c = λ first second labels same fits router. alike.same_candidates first second same labels fits router
