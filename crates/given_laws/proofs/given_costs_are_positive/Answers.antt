use Rattle.given_laws.proofs.WellFormed.{given_costs_are_positive}
use Rattle.given_laws.proofs.given_costs_are_positive.Goals as goal

pub returns : goal.returns
returns c = given_costs_are_positive
