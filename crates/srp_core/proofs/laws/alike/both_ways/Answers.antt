use Rattle.srp_core.proofs.Alike as alike
use Rattle.srp_core.proofs.laws.alike.both_ways.Goals as goal

pub returns-clause-turned : goal.returns-clause-turned
returns-clause-turned c = λ first second same. alike.turned first second same

pub returns-clause-joined : goal.returns-clause-joined
returns-clause-joined c = λ first second third a b. alike.joined first second third a b
