use Rattle.srp_core.proofs.Alike as alike
use Rattle.srp_core.proofs.AlikeQuotient as quotients
use Rattle.srp_core.proofs.laws.alike.keys.Goals as goal

pub returns-clause-one : goal.returns-clause-one
returns-clause-one c = λ first second same route. alike.one_key first second same route

pub returns-clause-same : goal.returns-clause-same
returns-clause-same c = λ first other small less above below a b keys. quotients.same_keys first other small less above below a b keys
