use Rattle.given_laws.proofs.WellFormed.{given_is_well_formed}
use Rattle.given_laws.proofs.given_is_well_formed.Goals as goal

pub returns : goal.returns
returns c = given_is_well_formed
