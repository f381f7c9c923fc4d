use Rattle.srp_core.proofs.Alike as alike
use Rattle.srp_core.proofs.laws.alike.stability.Goals as goal

pub returns-clause-stable : goal.returns-clause-stable
returns-clause-stable c = λ first second labels same stable. alike.same_stable first second same labels stable

pub returns-clause-forwards : goal.returns-clause-forwards
returns-clause-forwards c = λ first second labels same fits router next forwards. alike.same_forwards first second same labels fits router next forwards
