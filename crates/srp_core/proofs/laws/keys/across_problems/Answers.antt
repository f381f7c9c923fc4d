use Rattle.srp_core.proofs.KeyParts as parts
use Rattle.srp_core.proofs.laws.keys.across_problems.Goals as goal

pub returns-clause-same : goal.returns-clause-same
returns-clause-same c = λ first second r s preference size comms lone. parts.same_key first second r s preference size comms lone

pub returns-clause-lone : goal.returns-clause-lone
returns-clause-lone c = λ first second r s e n. parts.same_lone first second r s e n

pub returns-clause-others : goal.returns-clause-others
returns-clause-others c = λ first second r s e. parts.same_others first second r s e
