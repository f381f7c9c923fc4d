use Rattle.quotient_laws.proofs.Chains.{questions_carry}
use Rattle.quotient_laws.proofs.questions_carry.Goals as goal

pub returns : goal.returns
returns c = questions_carry c.to_quotient.ensures c.from_quotient.ensures
